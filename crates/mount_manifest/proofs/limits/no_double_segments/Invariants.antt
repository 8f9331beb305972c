use Rattle.std.proofs.Common.{◌≡◌, [], take, drop}
use Rattle.mount_manifest.specs.Manifest.{no_doubles, same_segment, segment_name_of}
use Rattle.mount_manifest.proofs.limits.no_double_segments.Given as goal

abbrev pub invariant-loop-i : goal.invariant-loop-i
invariant-loop-i l = no_doubles same_segment segment_name_of (take l.i l.segments) (drop l.i l.segments) ≡ no_doubles same_segment segment_name_of [] l.segments
