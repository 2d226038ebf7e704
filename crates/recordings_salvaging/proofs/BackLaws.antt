-- A run over a recording takes its messages and stops at its index, since no message begins with the index's first
-- byte.
use Prim.Native.Nat.{ℕ, zero, suc, ◌+◌, ◌-◌, ◌≤◌, ◌<◌}
use mathlib.Core.Path.{◌≡◌, refl, ap, sym, ◌∙◌}
use mathlib.Core.List.{List, [], ◌∷◌, map, append-nil}
use native.Mathlib.Omega.{arith}
use native.Mathlib.Nat.{add-zero}
use lib.ListN.{length, take, drop, length-append, length-take, length-drop}
use lib.Seq.{drop_at}
use borrow.Author.Tests.{le-leb, lt-leb}
use Rattle.sim0mq.specs.Answer.{refused}
use Rattle.sim0mq.specs.Header.{literal, magic, header}
use Rattle.sim0mq.specs.Message.{no_table, message}
use Rattle.sim0mq.specs.Allowed.{Each, none, more, joined}
use Rattle.sim0mq_numbers.specs.Bytes.{big_bytes}
use Rattle.dividing.specs.Front.{Taken, front_of, front_length}
use Rattle.dividing.specs.Run.{Stop, at_most, at_fault, stopped, run_from, total}
use Rattle.dividing.proofs.FrontLaws.{taken_wider}
use Rattle.dividing.proofs.RunLaws.{after, run_over}
use Rattle.recordings_format.specs.Edition.{Edition, most_messages}
use Rattle.recordings_format.specs.Text.{index_text, tail_text, IsRecording}
use Rattle.recordings_format.proofs.TextLaws.{joined_long}
use Rattle.recordings_salvaging.specs.Salvage.{rescued}

-- no message begins with 0
message_zero : (most : ℕ) (l : List ℕ) → suc (length l) ≤ most → message most no_table (0 ∷ l) ≡ refused 2 0
unfolding message header magic literal
message_zero most l h = simp (le-leb (suc (length l)) most h, le-leb 1 (suc (length l)) (omega arith))

front_zero : (most : ℕ) (l : List ℕ) → 0 < most → front_length most (0 ∷ l) ≡ refused 2 0
unfolding front_length
front_zero zero l h = absurd (omega arith)
front_zero (suc m) l h = ap front_of (message_zero (suc m) (take m l) (omega (arith, length-take m l)))

-- an index begins with 0, and so does the trailer of no messages
tail_zero : (e : Edition) (ns : List ℕ) → (rest : List ℕ) × (tail_text e ns ≡ 0 ∷ rest)
unfolding index_text big_bytes total
tail_zero e [] = (drop 1 (tail_text e []), refl)
tail_zero e (n ∷ ns) = (drop 1 (tail_text e (n ∷ ns)), refl)

stops_there : (most many : ℕ) (s : List ℕ) (at : ℕ) (rest : List ℕ) → 0 < most → drop at s ≡ 0 ∷ rest → 0 < many
    → run_from most many s at ≡ stopped (at_fault 2 at)
unfolding run_from
stops_there most zero s at rest h e k = absurd (omega arith)
stops_there most (suc many) s at rest h e k =
    let front : front_length most (drop at s) ≡ refused 2 0 = ap (front_length most) e ∙ front_zero most rest h in
    simp (lt-leb (length s) at (omega (arith, length-drop at s, ap length e)), front) (ap (λ (p : ℕ). stopped (at_fault 2 p)) (add-zero at))

full_there : (most : ℕ) (s : List ℕ) (at : ℕ) (rest : List ℕ) → drop at s ≡ 0 ∷ rest → run_from most 0 s at ≡ stopped at_most
unfolding run_from
full_there most s at rest e = simp (lt-leb (length s) at (omega (arith, length-drop at s, ap length e)))

each_wider : (least most : ℕ) (ms : List (List ℕ)) → least ≤ most → Each (Taken least) ms → Each (Taken most) ms
each_wider least most [] h none = none
each_wider least most (m ∷ ms) h (more t ts) = more (taken_wider least most m h t) (each_wider least most ms h ts)

-- a recording of edition e, whose messages edition f takes too
module _ (e f : Edition) (ms : List (List ℕ)) (s : List ℕ) (wide : e.most ≤ f.most) (some : 0 < f.most)
    (i : IsRecording e ms s) where
  abbrev ns : List ℕ
  ns = map length ms

  pub back_long : length s ≡ total ns + length (tail_text e ns)
  back_long =
      sym (ap length i.whole)
      ∙ length-append (joined ms) (tail_text e ns)
      ∙ ap (λ (k : ℕ). k + length (tail_text e ns)) (joined_long ms)

  -- its index, where its messages end, begins with 0
  there : drop (total ns) s ≡ 0 ∷ (tail_zero e ns).0
  there =
      ap (drop (total ns)) (sym i.whole)
      ∙ drop_at (joined ms) (tail_text e ns) (total ns) (joined_long ms)
      ∙ (tail_zero e ns).1

  over : rescued f s ≡ after ns (run_from f.most (most_messages - length ms) s (total ns))
  over =
      run_over f.most most_messages s 0 ms (tail_text e ns) (each_wider e.most f.most ms wide i.each)
      (sym i.whole) i.few
      ∙ ap (λ (p : ℕ). after ns (run_from f.most (most_messages - length ms) s p)) (omega (arith, joined_long ms))

  closed : (w : Stop) → run_from f.most (most_messages - length ms) s (total ns) ≡ stopped w
      → rescued f s ≡ record { lengths = ns; stop = w }
  closed w q =
      over ∙ ap (after ns) q ∙ ap (λ (l : List ℕ). record { lengths = l; stop = w }) (append-nil ns)

  pub back_index : length ms < most_messages → rescued f s ≡ record { lengths = ns; stop = at_fault 2 (total ns) }
  back_index h =
      closed (at_fault 2 (total ns))
      (stops_there f.most (most_messages - length ms) s (total ns) (tail_zero e ns).0 some there (omega arith))

  pub back_most : length ms ≡ most_messages → rescued f s ≡ record { lengths = ns; stop = at_most }
  back_most h =
      let none : most_messages - length ms ≡ 0 = omega arith in
      closed at_most
      (ap (λ (k : ℕ). run_from f.most k s (total ns)) none
      ∙ full_there f.most s (total ns) (tail_zero e ns).0 there)
