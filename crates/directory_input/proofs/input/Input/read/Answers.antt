use Rattle.std.proofs.Common.{◌≤◌, ◌+◌, arith, sym, ◌∙◌, length}
use Rattle.directory_input.proofs.Slices.{slice_of_window}
use Rattle.directory_input.proofs.input.Input.read.Goals as goal

pub returns-in-Ok-clause-bytes : goal.returns-in-Ok-clause-bytes
returns-in-Ok-clause-bytes g c = λ t.
    let inside : c.self.inside.position + length c.args.out.now ≤ c.self.inside.size = omega arith in
    rw (sym c.self.view_is) (c.in-Ok.ensures.bytes t ∙ sym (slice_of_window c.self.inside.start c.self.inside.size c.self.inside.position (length c.args.out.now) ((g.B.FileBytes.view c.args.bytes.now).bytes c.self.inside.file) inside))
