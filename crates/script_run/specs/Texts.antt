-- The text of a run.
use Rattle.std.specs.Prelude.{ℕ, List, [], ◌∷◌, ◌++◌, codes}
use Rattle.std.specs.Fmt.{decimal}
use Rattle.mount_script.specs.Replies.{text_of}
use Rattle.mount_script.specs.declared.command.Line.{Line}
use Rattle.mount_script.specs.declared.reply.Reply.{Reply}

-- NUMBER REPLY and a newline
abbrev pub line_text : Line → Reply → List ℕ
line_text l x = decimal l.number ++ (codes " " ++ (text_of x ++ codes "\n"))

abbrev pub block_text : List Line → List Reply → List ℕ
block_text (l ∷ ls) (x ∷ xs) = line_text l x ++ block_text ls xs
block_text _ _ = []

abbrev pub run_text : List (List Line) → List (List Reply) → List ℕ
run_text (b ∷ bs) (xs ∷ xss) = block_text b xs ++ run_text bs xss
run_text _ _ = []
