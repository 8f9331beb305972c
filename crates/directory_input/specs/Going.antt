-- Files in memory, from read to read.
use Rattle.std.proofs.Common.{ℕ, ◌≡◌, ◌≤◌, ◌+◌, ◌-◌, ◌^◌, nat_lt, ◌∙◌, ap, sym, subst, refl, Bool, true, false, if◌then◌else◌, List, [], ◌∷◌, ◌++◌, length}
use Rattle.std.proofs.Math.Nat.{le_refl, le_trans, le-add_right}
use Rattle.directory_input.specs.Reads.{Read}
use Rattle.directory_input.specs.Files.{FilesLater}
use Rattle.directory_input.specs.Memory.{MemFiles, GoesBy, files_of, file_bytes, AreInFiles, after_reads, read_once, counted, is_listed}

after_more : (rs ss : List Read) (m : MemFiles) → after_reads (rs ++ ss) m ≡ after_reads ss (after_reads rs m)
after_more [] ss m = refl
after_more (r ∷ rs) ss m = after_more rs ss (read_once m)

allowed_more : (files : List (List ℕ)) (rs ss : List Read) → AreInFiles files rs → AreInFiles files ss → AreInFiles files (rs ++ ss)
allowed_more files [] ss h k = k
allowed_more files (r ∷ rs) ss h k = (h.0, h.1, allowed_more files rs ss h.2 k)

files_after : (rs : List Read) (m : MemFiles) → (after_reads rs m).files ≡ m.files
files_after [] m = refl
files_after (r ∷ rs) m = files_after rs (read_once m)

same_files : (rs : List Read) (x y : MemFiles) → GoesBy rs x y → y.files ≡ x.files
same_files rs x y h = ap (λ (m : MemFiles). m.files) h.after ∙ files_after rs x

pub no_reads : (x : MemFiles) → GoesBy [] x x
no_reads x = record { allowed = tt; after = refl }

pub more_reads : (rs ss : List Read) (x y z : MemFiles) → GoesBy rs x y → GoesBy ss y z → GoesBy (rs ++ ss) x z
more_reads rs ss x y z h k = record {
  allowed = allowed_more x.files rs ss h.allowed (subst (λ files. AreInFiles files ss) (same_files rs x y h) k.allowed);
  after = k.after ∙ ap (after_reads ss) h.after ∙ sym (after_more rs ss x);
}

not_fewer : (n : ℕ) (b : Bool) → n ≤ (if b then n + 1 else n)
not_fewer n true = le-add_right n 1
not_fewer n false = le_refl n

not_fewer_faults : (n : ℕ) (b : Bool) → n ≤ (if b then counted n else n)
not_fewer_faults n true = not_fewer n (nat_lt n (2 ^ 64 - 1))
not_fewer_faults n false = le_refl n

faults_after : (rs : List Read) (m : MemFiles) → m.faults ≤ (after_reads rs m).faults
faults_after [] m = le_refl m.faults
faults_after (r ∷ rs) m = le_trans (not_fewer_faults m.faults (is_listed (counted m.reads) m.failing)) (faults_after rs (read_once m))

pub files_later : (rs : List Read) (x y : MemFiles) → GoesBy rs x y → FilesLater (files_of x) (files_of y)
files_later rs x y h = let same = same_files rs x y h in record {
  count = ap length same;
  lengths = ap (λ fs f. length (file_bytes fs f)) same;
  tells = refl;
  bytes = ap file_bytes same;
  mount = refl;
  faults = subst (λ (m : MemFiles). x.faults ≤ m.faults) (sym h.after) (faults_after rs x);
  gone = λ raised. raised;
  memory = λ raised. raised;
}
