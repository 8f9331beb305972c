-- Status 2 comes only where the words are refused.
use Rattle.std.proofs.Common.{◌≡◌, ℕ, Bool, true, false, refl, sym, ◌∙◌, ◌⊎◌, inl, inr, arith}
use Rattle.std.specs.Prelude.{Option, Some, None, if◌then◌else◌}
use Rattle.cache_outside.specs.Listing.{Listing}
use Rattle.mount_script.specs.declared.reply.Reply.{Reply}
use Rattle.mount_script.specs.declared.reply.Reply.TheVariants.{Mounted, Unmounted, Cleared, Decayed, Hits, Fields, Bytes, Stats, Refused, Fault, Gone, NoMemory}
use Rattle.cache_outside.specs.Clocks.{ClockView}
use Rattle.cache_outside.specs.Sinks.{SinkView}
use Rattle.run_setup.specs.declared.settings.RunSettings.{RunSettings}
use Rattle.run_setup.specs.declared.make_settings.MakeSettings.{MakeSettings}
use Rattle.run_setup.specs.Words.{Command, term, run, make}
use Rattle.script_run.specs.declared.ended.Ended.{Ended}
use Rattle.script_run.specs.declared.ended.Ended.TheVariants as ended
use Rattle.mount_tool.specs.Replies.{status_of, run_status}
use Rattle.mount_tool.specs.Makes.{MakeEnding, without_frames, without_room, searched, searched_by_several, MakeEnds, SearchesEnd}
use Rattle.mount_tool.specs.Calls.{World, RunEnding, unread, no_script, no_frame, no_room, ran, shared, RunEnds, CallEnds, refuses, taken_on}

reply_status : (r : Reply) → status_of r ≡ 2 → ⊥
reply_status (Mounted files docs) e = omega (arith, e)
reply_status Unmounted e = omega (arith, e)
reply_status Cleared e = omega (arith, e)
reply_status Decayed e = omega (arith, e)
reply_status (Hits total shown) e = omega (arith, e)
reply_status (Fields fields) e = omega (arith, e)
reply_status (Bytes bytes) e = omega (arith, e)
reply_status (Stats a b c d p q r s) e = omega (arith, e)
reply_status (Refused text) e = omega (arith, e)
reply_status Fault e = omega (arith, e)
reply_status Gone e = omega (arith, e)
reply_status NoMemory e = omega (arith, e)

ended_status : (e : Ended) → run_status e ≡ 2 → ⊥
ended_status (ended.Done false) e = omega (arith, e)
ended_status (ended.Done true) e = omega (arith, e)
ended_status ended.SinkFault e = omega (arith, e)
ended_status ended.NoMemory e = omega (arith, e)

written_status : (A B P : Type 0) (own status : ℕ) → (A × (status ≡ own)) ⊎ (B × (((status ≡ 5) × P) ⊎ (status ≡ 6))) → (own ≡ 2 → ⊥) → status ≡ 2 → ⊥
written_status A B P own status (inl h) other two = other (sym h.1 ∙ two)
written_status A B P own status (inr (b, inl five)) other two = let f = five.0 in omega (arith, f, two)
written_status A B P own status (inr (b, inr six)) other two = omega (arith, six, two)

noted_status : (A B : Type 0) (status : ℕ) → ((status ≡ 3) × A) ⊎ ((status ≡ 6) × B) → status ≡ 2 → ⊥
noted_status A B status (inl h) two = let f = h.0 in omega (arith, f, two)
noted_status A B status (inr h) two = let f = h.0 in omega (arith, f, two)

run_ends : (tells : Bool) (blobs : Listing) (s : RunSettings) (x y : World) (ending : RunEnding) (status : ℕ) → RunEnds tells blobs s x y ending status → status ≡ 2 → ⊥
run_ends tells blobs s x y unread status h two = let f = h.0 in omega (arith, f, two)
run_ends tells blobs s x y (no_script t e) status h two = noted_status _ _ status h.2 two
run_ends tells blobs s x y (no_frame t blocks) status h two = let f = h.1 in omega (arith, f, two)
run_ends tells blobs s x y no_room status h two = let f = h.0 in omega (arith, f, two)
run_ends tells blobs s x y (ran t blocks told core ended) status h two = ended_status ended (sym h.1 ∙ two)
run_ends tells blobs s x y (shared t blocks told first last ended) status h two = ended_status ended (sym h.1 ∙ two)

zero_status : (own : ℕ) → own ≡ 0 → own ≡ 2 → ⊥
zero_status own zero two = omega (arith, zero, two)

searches_end : (m : MakeSettings) (k l : SinkView) (total sum : ℕ) (e : Ended) (status : ℕ) → SearchesEnd m k l total sum e status → status ≡ 2 → ⊥
searches_end m k l total sum (ended.Done marked) status h two = written_status _ _ _ 0 status h (zero_status 0 refl) two
searches_end m k l total sum ended.SinkFault status h two = h
searches_end m k l total sum ended.NoMemory status h two = let f = h.0 in omega (arith, f, two)

make_ends : (m : MakeSettings) (faults now : ℕ) (k l : SinkView) (c d : ClockView) (ending : MakeEnding) (status : ℕ) → MakeEnds m faults now k l c d ending status → status ≡ 2 → ⊥
make_ends m faults now k l c d without_frames status h two = let f = h.0 in omega (arith, f, two)
make_ends m faults now k l c d without_room status h two = let f = h.0 in omega (arith, f, two)
make_ends m faults now k l c d (searched a b core ended total sum) status h two = searches_end m k l total sum ended status h.3 two
make_ends m faults now k l c d (searched_by_several a b first last ended total sum) status h two = searches_end m k l total sum ended status h.3 two

chosen : (b : Bool) (c : Command) → (if b then None else Some c) ≡ None → b ≡ true
chosen true c e = refl
chosen false c e = absurd cc

only_none : (tells : Bool) (blobs : Listing) (c : Option Command) (x y : World) (status : ℕ) → CallEnds tells blobs c x y status → status ≡ 2 → c ≡ None
only_none tells blobs None x y status h two = refl
only_none tells blobs (Some (term t)) x y status h two = absurd (written_status _ _ _ _ status h.0.written (reply_status h.0.reply) two)
only_none tells blobs (Some (run s)) x y status h two = absurd (run_ends tells blobs s x y h.ending status h.ends two)
only_none tells blobs (Some (make m)) x y status h two = absurd (make_ends m _ _ _ _ _ _ h.0.ending status h.0.ends two)

refused_by : (sources : ℕ) (c : Option Command) → taken_on sources c ≡ None → refuses sources c ≡ true
refused_by sources None e = refl
refused_by sources (Some c) e = chosen (refuses sources (Some c)) c e

pub only_refused : (tells : Bool) (blobs : Listing) (sources : ℕ) (c : Option Command) (x y : World) (status : ℕ) → CallEnds tells blobs (taken_on sources c) x y status → status ≡ 2 → refuses sources c ≡ true
only_refused tells blobs sources c x y status h two = refused_by sources c (only_none tells blobs (taken_on sources c) x y status h two)
