use Rattle.std.proofs.Common.{rules, ◌<◌, length, refl, ◌∙◌}
use Rattle.dpe_engine.proofs.Runs.{ends, last_counts, same_totals, totals_through, counts_in_all}
use Rattle.dpe_engine.proofs.run.pipeline.work_all.Goals as goal

pub buffers-init : goal.buffers-init
buffers-init g c = record { running = c.requires; total = refl; totals = same_totals c.args.consumer _ }

pub buffers-preserved : goal.buffers-preserved
buffers-preserved g c =
    let i = c.buffers.invariant in
    let e = c.step-filled.ensures in
    record { running = e.running; total = e.total ∙ i.total; totals = totals_through _ _ _ _ _ _ i.totals e.totals }

pub returns-clause-worked : goal.returns-clause-worked
returns-clause-worked g c =
    let r = c.buffers.invariant.running in
    let fits = r.fits in
    let short : length c.buffers.consumer.full.pairs < c.buffers.consumer.full.room = search rules in
    ends _ _ _ _ _ _ r _ c.work-consumer.ensures short

pub returns-clause-counted : goal.returns-clause-counted
returns-clause-counted g c =
    let i = c.buffers.invariant in
    let r = i.running in
    let fits = r.fits in
    let short : length c.buffers.consumer.full.pairs < c.buffers.consumer.full.room = search rules in
    counts_in_all _ _ _ _ _ i.totals (last_counts _ _ _ _ _ _ r _ c.work-consumer.ensures short)
