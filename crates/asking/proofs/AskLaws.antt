-- Asking is reading and then taking field k, so what it answers is what stands at place k of the reading's fields.
use Prim.Native.Nat.{ℕ, zero, suc, ◌+◌, ◌*◌, ◌≤◌, ◌<◌, zero-le}
use mathlib.Core.Path.{◌≡◌, refl, ap, sym, ◌∙◌}
use mathlib.Core.List.{List, [], ◌∷◌}
use native.Mathlib.Omega.{arith}
use native.Mathlib.Nat.{not-suc-le-zero, le_of_suc-le-suc}
use lib.ListN.{length, take, drop}
use lib.Seq.{drop-append-add}
use Rattle.sim0mq.specs.Answer.{fine, refused}
use Rattle.sim0mq.specs.Field.{Field}
use Rattle.sim0mq.specs.Table.{row, row_size, rows}
use Rattle.sim0mq.specs.Message.{no_table, Reading, reading}
use Rattle.sim0mq.proofs.Answers.{not_fine, fine_eq}
use Rattle.asking.specs.Asking.{nth, asked}

-- asking is reading, and then the field
pub asked_refused : (s : List ℕ) (k n p : ℕ) → reading no_table s ≡ refused n p → asked s k ≡ refused n p
unfolding asked
asked_refused s k n p q = simp q

pub asked_nth : (s : List ℕ) (k : ℕ) (m : Reading) → reading no_table s ≡ fine m → asked s k ≡ nth m.fields k
unfolding asked
asked_nth s k m q = simp q

-- there is a field k exactly where there are more than k
pub nth_past : (fs : List Field) (k : ℕ) → length fs ≤ k → nth fs k ≡ refused 16 0
unfolding nth
nth_past [] k h = refl
nth_past (f ∷ fs) zero h = absurd (not-suc-le-zero h)
nth_past (f ∷ fs) (suc k) h = nth_past fs k (le_of_suc-le-suc h)

pub nth_finds : (fs : List Field) (k : ℕ) → k < length fs → (f : Field) × (nth fs k ≡ fine f)
unfolding nth
nth_finds [] k h = absurd (not-suc-le-zero h)
nth_finds (f ∷ fs) zero h = (f, refl)
nth_finds (f ∷ fs) (suc k) h = nth_finds fs k (le_of_suc-le-suc h)

pub nth_past_only : (fs : List Field) (k : ℕ) → nth fs k ≡ refused 16 0 → length fs ≤ k
unfolding nth
nth_past_only [] k e = zero-le
nth_past_only (f ∷ fs) zero e = absurd (not_fine (sym e))
nth_past_only (f ∷ fs) (suc k) e = let h = nth_past_only fs k e in omega arith

-- field k is row k
pub nth_row : (fs : List Field) (k : ℕ) (f : Field) → nth fs k ≡ fine f → take row_size (drop (row_size * k) (rows fs)) ≡ row f
unfolding nth rows row row_size
nth_row [] k f q = absurd (not_fine q)
nth_row (g ∷ fs) zero f q = ap row (fine_eq q)
nth_row (g ∷ fs) (suc k) f q =
    let e : row_size * suc k ≡ length (row g) + row_size * k = omega arith in
    ap (λ (n : ℕ). take row_size (drop n (rows (g ∷ fs)))) e ∙ ap (take row_size) (drop-append-add (row g) (rows fs) (row_size * k)) ∙ nth_row fs k f q
