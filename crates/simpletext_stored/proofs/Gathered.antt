-- The fields of a document, as its lines are read.
use Rattle.std.proofs.Common.{◌≡◌, ℕ, ◌∙◌, ap, sym, refl, append_assoc, append-nil, Bool, List, [], ◌∷◌, ◌++◌, Ok, Err}
use Rattle.std.specs.Prelude.{IsTrue, IfOk, Result, None}
use Rattle.simpletext_stored.specs.Reading.{Lines, Takes, Holds, lines_of, map_ok}
use Rattle.simpletext_stored.specs.Stored.{form_of}
use Rattle.simpletext_stored.specs.Steps.{is_own, is_whole, all_fields, document_of}
use Rattle.simpletext_stored.specs.Documents.{StepsOn, HoldsDocument}
use Rattle.simpletext_stored.specs.declared.document.Document.{Document}
use Rattle.simpletext_stored.specs.declared.field.Kind.TheVariants.{Str}
use Rattle.simpletext_stored.specs.declared.form.Form.{Form}

pub none_gathered : (document : Document) → document.last ≡ None → document.fields.items ≡ [] → document.name ≡ [] → document.kind ≡ Str → HoldsDocument [] [] document
none_gathered document first none no_name kind = record { last_is = first; fields = λ later. rw (none, no_name, kind) refl }

line_gathered : (doc : ℕ) (past : List Form) (kept : Lines Form) (at : ℕ) (document : Document) → HoldsDocument past kept document
    → (content : List ℕ) (new : Document) (b : Bool) → StepsOn doc past content document new b
    → Takes form_of (is_own doc) (λ past kept at document. HoldsDocument past kept document) past kept at content new b
line_gathered doc past kept at document held content new b step =
    let own = (at, form_of content, content) ∷ [] in
    record {
      same = step.same;
      after = λ so now le. record {
        last_is = step.last_is so;
        fields = λ later. ap (all_fields [] Str) (append_assoc kept own later) ∙ held.fields (own ++ later) ∙ step.fields so at later;
      };
    }

pub answer_gathered : {E : Type 0} (doc : ℕ) (past : List Form) (kept : Lines Form) (at : ℕ) (document : Document) → HoldsDocument past kept document
    → (content : List ℕ) (new : Document) (r : Result Bool E) → IfOk r (StepsOn doc past content document new)
    → IfOk r (Takes form_of (is_own doc) (λ past kept at document. HoldsDocument past kept document) past kept at content new)
answer_gathered doc past kept at document held content new (Ok b) step = line_gathered doc past kept at document held content new b step
answer_gathered doc past kept at document held content new (Err e) step = tt

pub all_gathered : (doc : ℕ) (tells : Bool) (text : List ℕ) (size : ℕ) (document : Document)
    → Holds is_whole (λ past kept at document. HoldsDocument past kept document) tells (lines_of form_of (is_own doc) is_whole text) size document
    → IsTrue tells → document_of doc text ≡ Ok document.fields.items
all_gathered doc tells text size document whole t =
    ap (map_ok (all_fields [] Str)) (whole.lines t)
    ∙ ap (λ k. Ok (all_fields [] Str k)) (sym (append-nil whole.kept)) ∙ ap Ok (whole.held.fields [] ∙ append-nil document.fields.items)
