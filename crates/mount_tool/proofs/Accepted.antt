-- Which words are taken on.
use Rattle.std.proofs.Common.{◌≡◌, ℕ, ◌<◌, ◌≤◌, ◌&&◌, Bool, true, false, refl, sym, ap, ◌∙◌, arith}
use Rattle.std.specs.Prelude.{Option, Some, None, nat_lt, nat_le}
use Rattle.std.proofs.lemmas.Bool.{false≢true}
use Rattle.std.proofs.lemmas.Bool.Decides.{nat_tests}
use Rattle.run_setup.specs.declared.settings.RunSettings.{RunSettings}
use Rattle.run_setup.specs.declared.make_settings.MakeSettings.{MakeSettings}
use Rattle.run_setup.specs.Settings.{in_limits}
use Rattle.run_setup.specs.Words.{Command, Term, term, run, make, asks}
use Rattle.mount_tool.specs.Calls.{refuses, taken_on}

first : (a b : Bool) → (a && b) ≡ true → a ≡ true
first true b h = refl
first false b h = absurd (false≢true h)

some_workers : (s : RunSettings) → in_limits s ≡ true → 0 < s.workers
some_workers s is =
    let e : nat_lt 0 s.workers ≡ true = first _ _ (first _ _ (first _ _ (first _ _ (first _ _ is)))) in
    grind (arith, nat_tests)

pub none_taken : (sources : ℕ) (c : Option Command) → c ≡ None → taken_on sources c ≡ None
none_taken sources c is = rw is refl

pub term_taken : (sources : ℕ) (c : Option Command) (t : Term) → c ≡ Some (term t) → 0 < sources → taken_on sources c ≡ Some (term t)
term_taken sources c t is some = let e : nat_lt 0 sources ≡ true = grind (arith, nat_tests) in rw (is, e) refl

pub run_taken : (sources : ℕ) (c : Option Command) (s : RunSettings) → c ≡ Some (run s) → asks c ≡ false → 0 < sources → taken_on sources c ≡ Some (run s)
run_taken sources c s is alone some =
    let one : nat_lt 1 s.workers ≡ false = sym (ap asks is) ∙ alone in
    let e : nat_le s.workers sources ≡ true = grind (arith, nat_tests) in
    rw (is, e) refl

pub make_taken : (sources : ℕ) (c : Option Command) (m : MakeSettings) → c ≡ Some (make m) → taken_on sources c ≡ Some (make m)
make_taken sources c m is = rw is refl

pub term_untaken : (t : Term) → taken_on 0 (Some (term t)) ≡ None
term_untaken t = refl

pub run_untaken : (s : RunSettings) → in_limits s ≡ true → taken_on 0 (Some (run s)) ≡ None
run_untaken s is =
    let some = some_workers s is in
    let e : nat_le s.workers 0 ≡ false = grind (arith, nat_tests) in
    rw e refl

-- a script by several workers, with enough sources
pub shared_taken : (sources : ℕ) (c : Option Command) (s : RunSettings) → c ≡ Some (run s) → s.workers ≤ sources → taken_on sources c ≡ Some (run s)
shared_taken sources c s is enough = let e : nat_le s.workers sources ≡ true = grind (arith, nat_tests) in rw (is, e) refl

pub few_refused : (sources : ℕ) (c : Option Command) (s : RunSettings) → c ≡ Some (run s) → sources < s.workers → refuses sources c ≡ true
few_refused sources c s is few = let e : nat_le s.workers sources ≡ false = grind (arith, nat_tests) in rw (is, e) refl

pub refused_untaken : (sources : ℕ) (c : Option Command) → refuses sources c ≡ true → taken_on sources c ≡ None
refused_untaken sources c is = rw is refl

-- a script by one worker
pub one_worker : (c : Option Command) (s : RunSettings) → c ≡ Some (run s) → asks c ≡ false → s.workers ≤ 1
one_worker c s is alone = let one : nat_lt 1 s.workers ≡ false = sym (ap asks is) ∙ alone in grind (arith, nat_tests)

-- an archive that is made, by one worker or by several
pub one_worker_makes : (c : Option Command) (m : MakeSettings) → c ≡ Some (make m) → asks c ≡ false → m.run.workers ≤ 1
one_worker_makes c m is alone = let one : nat_lt 1 m.run.workers ≡ false = sym (ap asks is) ∙ alone in grind (arith, nat_tests)

pub several_make : (c : Option Command) (m : MakeSettings) → c ≡ Some (make m) → asks c ≡ true → 1 < m.run.workers
several_make c m is some = let one : nat_lt 1 m.run.workers ≡ true = sym (ap asks is) ∙ some in grind (arith, nat_tests)

pub two_workers : (c : Option Command) (s : RunSettings) → c ≡ Some (run s) → asks c ≡ true → 1 < s.workers
two_workers c s is some = let one : nat_lt 1 s.workers ≡ true = sym (ap asks is) ∙ some in grind (arith, nat_tests)
