-- Runs of bytes below 128, by blocks and byte by byte.
use Prim.Native.Nat.{ℕ, zero, suc, ◌+◌, ◌-◌, ◌≤◌, ◌<◌}
use mathlib.Core.Path.{◌≡◌, refl}
use mathlib.Core.List.{List, [], ◌∷◌}
use mathlib.Core.Bool.{Bool, true, false}
use borrow.Author.Tests.{ltb-true, lt-ltb}
use native.Mathlib.Omega.{arith}
use lib.ListN.{length, get_or, drop}
use lib.Seq.{get_or-drop}
use Rattle.slices.specs.Bytes.{if, span}
use Rattle.slices.specs.Run.{Blocks, Run}
use Rattle.slices.proofs.Runs.{Running, run_reaches}
use Rattle.slices.proofs.Skips.{run_join}
use Rattle.utf8.specs.Ascii.{AtMost, Ascii, ascii}

-- blocks whose bytes are all below 128
pub ascii_blocks : {answers : ℕ → Bool → Type 0} {s : List ℕ} {from n r : ℕ} → Blocks answers s from n r → ((at : ℕ) → at + n ≤ length s → answers at true → AtMost s at n 127) → Ascii s from r
ascii_blocks {answers} {s} {from} {n} {r} g f = record { onward = g.onward; inside = g.within; low = λ i a l. go i (g.each i a l) }
  where
    go : (i : ℕ) → (k : ℕ) × (k ≤ i) × (i < k + n) × (k + n ≤ length s) × answers k true → get_or s i 0 < 128
    go i (k, m, l, h, p) =
        let e : k + (i - k) ≡ i = omega (arith, m) in
        omega (arith, rw e at ((f k h p).least (i - k) (omega (arith, l, m))))

pub most_low : {s : List ℕ} {at n m : ℕ} → AtMost s at n m → m ≤ 127 → AtMost s at n 127
most_low a h = record { least = λ i l. omega (arith, a.least i l, h) }

-- ---- a run of bytes below 128

-- a run goes on past bytes that are below 128
ascii_running : {s : List ℕ} {from at : ℕ} → Ascii s from at → Running ascii s from at
ascii_running {s} a = run_reaches a.onward a.inside (λ i g l. lt-ltb (get_or s i 0) 128 (a.low i g l))

pub ascii_run : {s : List ℕ} {from at r : ℕ} → Ascii s from at → Run ascii s at r → Run ascii s from r
ascii_run a = run_join (ascii_running a)

low_run : (l : List ℕ) (i : ℕ) → i < length (span ascii l) → get_or l i 0 < 128
low_run [] i h = absurd (omega arith)
low_run (b ∷ l) i h = go (low_run l) (ascii b) refl i h
  where
    go : ((i : ℕ) → i < length (span ascii l) → get_or l i 0 < 128) → (t : Bool) → ascii b ≡ t → (i : ℕ) → i < length (if t (b ∷ span ascii l) []) → get_or (b ∷ l) i 0 < 128
    go f true e zero h = ltb-true b 128 e
    go f true e (suc i) h = f i (omega arith)
    go f false e i h = absurd (omega arith)

pub run_low : {s : List ℕ} {from r : ℕ} → Run ascii s from r → Ascii s from r
run_low {s} {from} {r} g = record {
  onward = g.onward;
  inside = g.within;
  low = λ i h k.
      let e : from + (i - from) ≡ i = omega (arith, h) in
      let b : get_or (drop from s) (i - from) 0 < 128 = low_run (drop from s) (i - from) (omega (arith, g.ends, h, k)) in
      rw e at (rw get_or-drop at b);
}
