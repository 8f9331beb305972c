use Rattle.std.proofs.Common.{◌∙◌, ap, sym}
use Rattle.directory_input.specs.Windows.{window_bytes}
use Rattle.directory_input.proofs.Later.{files_join, going_join}
use Rattle.shard_search.proofs.FetchLemmas.{no_fields, some_fields, has_document}
use Rattle.shard_search.proofs.fetching.document_of.Goals as goal

pub returns-then-not-is_alive-clause-fields : goal.returns-then-not-is_alive-clause-fields
returns-then-not-is_alive-clause-fields g c = λ t.
    let one = c.index_of.ensures.cause.files in
    let read = c.in-Ok.ensures.documents t in
    no_fields (g.B.FileBytes.view c.args.bytes.now).bytes c.args.file c.args.segment.now c.args.doc read.0 c.in-Ok-live_set.live c.requires.below read.1
    (rw (one.bytes) at (c.in-Ok-live_set.ensures.documents (one.tells ∙ t)))
    c.in-Ok-live_set.ensures.length
    (sym c.is_alive.ensures ∙ c.if-not-is_alive.true)

pub returns-in-Ok-fields_in-clause-fields : goal.returns-in-Ok-fields_in-clause-fields
returns-in-Ok-fields_in-clause-fields g c = λ t.
    let one = c.index_of.ensures.cause.files in
    let two = files_join one c.live_set.ensures.cause.files in
    let read = c.in-Ok.ensures.documents t in
    some_fields (g.B.FileBytes.view c.args.bytes.now).bytes c.args.file c.args.segment.now c.args.doc read.0 c.in-Ok-live_set.live c.requires.below read.1
    (rw (one.bytes) at (c.in-Ok-live_set.ensures.documents (one.tells ∙ t)))
    c.in-Ok-live_set.ensures.length
    c.in-Ok-fields_in.fields.items
    (sym c.is_alive.ensures ∙ c.if-not-is_alive.false)
    (has_document c.args.file c.args.segment.now.docs c.in-Ok.index.docs c.args.doc _ _ read.0 c.in-Ok-fields_in.fields.items c.in-Ok.ensures.docs
    (ap (λ b. window_bytes b c.in-Ok.index.input) (two.bytes) ∙ c.in-Ok.ensures.text t) read.1
    (c.in-Ok-fields_in.ensures.fields (two.tells ∙ t)))

pub returns-in-Err-live_set-clause-goes : goal.returns-in-Err-live_set-clause-goes
returns-in-Err-live_set-clause-goes g c = going_join g.met.B.FileBytes.by_more c.index_of.ensures.goes c.live_set.ensures.goes

pub returns-then-not-is_alive-clause-goes : goal.returns-then-not-is_alive-clause-goes
returns-then-not-is_alive-clause-goes g c = going_join g.met.B.FileBytes.by_more c.index_of.ensures.goes c.live_set.ensures.goes

pub returns-clause-goes : goal.returns-clause-goes
returns-clause-goes g c =
    let more = g.met.B.FileBytes.by_more in
    going_join more (going_join more c.index_of.ensures.goes c.live_set.ensures.goes) c.fields_in.ensures.goes

pub returns-in-Ok-fields_in-clause-goes : goal.returns-in-Ok-fields_in-clause-goes
returns-in-Ok-fields_in-clause-goes g c =
    let more = g.met.B.FileBytes.by_more in
    going_join more (going_join more c.index_of.ensures.goes c.live_set.ensures.goes) c.fields_in.ensures.goes
