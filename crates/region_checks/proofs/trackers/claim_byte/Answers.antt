use Rattle.std.proofs.Common.{ℕ, ◌+◌}
use Rattle.region_ranges.specs.declared.ranges.ByteRange.{ByteRange}
use Rattle.region_checks.proofs.Opened.{claim_gap, claim_ticket, claim_gaps, claim_tickets, ok_tracker, err_tracker}
use Rattle.region_checks.proofs.trackers.claim_byte.Goals as goal

abbrev byte : ℕ → ByteRange
byte at = record { start = at; end = at + 1 }

pub returns-clause-gap : goal.returns-clause-gap
returns-clause-gap c = claim_gap (byte c.args.at) (byte c.args.at) c.args.tracker.now.tracker _ c.wait_for_range.result c.wait_for_range.ensures.claim (ok_tracker c.wait_for_range.result c.args.tracker.now _ _ _ c.wait_for_range.ensures.ok)

pub returns-clause-ticket : goal.returns-clause-ticket
returns-clause-ticket c = claim_ticket (byte c.args.at) (byte c.args.at) c.args.tracker.now.tracker _ c.wait_for_range.result c.wait_for_range.ensures.claim (ok_tracker c.wait_for_range.result c.args.tracker.now _ _ _ c.wait_for_range.ensures.ok)

pub returns-clause-gaps : goal.returns-clause-gaps
returns-clause-gaps c =
    claim_gaps (byte c.args.at) (byte c.args.at) c.args.tracker.now.tracker _ c.wait_for_range.result (ok_tracker c.wait_for_range.result c.args.tracker.now _ _ _ c.wait_for_range.ensures.ok) (err_tracker c.wait_for_range.result c.args.tracker.now _ c.wait_for_range.ensures.err)

pub returns-clause-tickets : goal.returns-clause-tickets
returns-clause-tickets c =
    claim_tickets (byte c.args.at) (byte c.args.at) c.args.tracker.now.tracker _ c.wait_for_range.result (ok_tracker c.wait_for_range.result c.args.tracker.now _ _ _ c.wait_for_range.ensures.ok) (err_tracker c.wait_for_range.result c.args.tracker.now _ c.wait_for_range.ensures.err)
