use Rattle.std.proofs.Common.{arith, ◌≡◌, ◌<◌, ◌∙◌, List, length, map, drop, sym, ap, subst, Some}
use Rattle.std.specs.Prelude.{option_map}
use Rattle.std.proofs.lemmas.List.{length-map}
use Rattle.run_setup.specs.Asked.{view_of}
use Rattle.run_setup.specs.declared.asked.Asked.{Asked}
use Rattle.run_setup.specs.Words.{texts, run, command}
use Rattle.mount_tool.specs.Calls.{IsCall, world, readers}
use Rattle.mount_tool.proofs.Accepted.{few_refused, refused_untaken}
use Rattle.mount_tool.proofs.Calls.{refused_call}
use Rattle.mount_tool.proofs.run.answer_shared.Goals as goal

-- there are fewer sources than workers
pub returns-then-settings-len : goal.returns-then-settings-len
returns-then-settings-len g c =
    let view = g.S.BlobSource.view in
    let words = texts c.args.words.now in
    let sources = c.args.sources.items in
    let same = c.refuse_words-then-settings-len.ensures.sources in
    let is : command words ≡ Some (run c.in-Run.settings) = sym c.in-Some.ensures.asked ∙ ap (λ (a : Asked). option_map view_of (Some a)) c.in-Run.is in
    let few : length (map view sources) < c.in-Run.settings.workers = omega (arith, c.if-settings-len.true, c.len.ensures, length-map sources view) in
    record {
      call = subst (λ (l : List g.row.S.Denot). IsCall g.A.Archive.tells g.A.Archive.blobs words
          (world (g.T.TextSource.view c.args.script.now) (g.M.FrameMaker.view c.args.frames.now) (g.K.Sink.view c.args.sink.now) (g.C.Clock.view c.args.clock.now) (map view sources))
          (world (g.T.TextSource.view c.args.script.now) (g.M.FrameMaker.view c.args.frames.now) (g.K.Sink.view c.refuse_words-then-settings-len.new.sink) (g.C.Clock.view c.args.clock.now) (map view l))
          c.refuse_words-then-settings-len.result.status) (sym same)
          (refused_call _ _ words (map view sources) _ _ _ _ _ _ (refused_untaken (length (map view sources)) (command words) (few_refused (length (map view sources)) (command words) c.in-Run.settings is few)) c.refuse_words-then-settings-len.ensures.status);
      sources = ap (map (λ s. (view s).identity)) same;
      others = ap (drop (readers (command words))) same;
    }
