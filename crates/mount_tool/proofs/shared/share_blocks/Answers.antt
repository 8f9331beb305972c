use Rattle.std.proofs.Common.{◌∙◌, sym, ap}
use Rattle.std.proofs.lemmas.List.Sums.{list_all-from_AllPass}
use Rattle.cache_outside.specs.Sources.{SourceView}
use Rattle.cache_table.specs.Abouts.{About}
use Rattle.shared_run.proofs.Jobs.{map_map}
use Rattle.mount_tool.proofs.Ends.{shared_over_frames}
use Rattle.mount_tool.proofs.shared.share_blocks.Goals as goal

pub returns-clause-run : goal.returns-clause-run
returns-clause-run g c =
    shared_over_frames _ _ c.args.settings.now c.args.script.now _ _ _ _ c.in-Ok-open.cache.about.tells c.in-Ok-open.pass c.run_shared-ended.new.pass c.run_shared-ended.result c.run_status.result c.config-config.result
    c.config-config.ensures.config c.run_status.ensures
    (λ t. ap (λ (a : About). a.tells) c.in-Ok-open.ensures.cache ∙ list_all-from_AllPass (λ f. (g.M.F.Frame.view f).tells) c.in-Ok.made.items (c.in-Ok.ensures.tell t))
    c.run_shared-ended.ensures.run

pub returns-clause-same : goal.returns-clause-same
returns-clause-same g c =
    let view = g.S.BlobSource.view in
    sym (map_map (λ (s : SourceView). s.identity) view c.run_shared-ended.new.sources.items) ∙ c.run_shared-ended.ensures.run.identities ∙ map_map (λ (s : SourceView). s.identity) view c.args.sources.now.items
