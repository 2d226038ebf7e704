-- The promises of the ledger over any run of calls: each call keeps what the decks have and what was applied in step,
-- since a message that is applied does one deed that can be done, and any other call alters no deck.
use Prim.Native.Nat.{ℕ, zero, suc, ◌+◌, ◌≤◌}
use mathlib.Core.Path.{◌≡◌, refl, ap}
use mathlib.Core.List.{List, [], ◌∷◌, ◌++◌}
use native.Mathlib.Omega.{arith}
use lib.ListN.{length, replicate}
use Rattle.sim0mq.specs.Answer.{Answer, fine, refused}
use Rattle.senders_book.specs.declared.Sender.{Sender}
use Rattle.ledger_decks.specs.declared.Deed.{Deed}
use Rattle.ledger_decks.specs.Decks.{deck_count, deck_heads, heads_on, total}
use Rattle.ledger_decks.specs.Mustering.{Order, mustering}
use Rattle.ledger_decks.specs.Promises.{CanBeDone}
use Rattle.ledger_decks.specs.History.{
  Call,
  musters,
  closes,
  Point,
  start,
  point_after,
  next,
  after_calls,
  is_new,
  is_delete,
  arrives,
  departs,
  tally,
  HeadsAreNewsLessDeletes,
  DecksAreArrivalsLessDepartures,
  DecksStayInBounds,
}
use Rattle.ledger_decks.proofs.DeckLaws.{deed_long, deed_deck, deed_total, deed_most}
use Rattle.ledger_decks.proofs.Promises.{applied_can_be_done}

tally_more : (f : Deed → ℕ) (xs : List Deed) (x : Deed) → tally f (xs ++ (x ∷ [])) ≡ tally f xs + f x
unfolding tally
tally_more f [] x = omega arith
tally_more f (y ∷ ys) x = let r = tally_more f ys x in omega arith

-- a point whose decks are what was applied, and none too full
record Kept (p : Point) : Type 0 where
  long : length p.decks ≡ deck_count
  most : (d : ℕ) → heads_on p.decks d ≤ deck_heads
  all : total p.decks + tally is_delete p.applied ≡ tally is_new p.applied
  each : (d : ℕ) → heads_on p.decks d + tally (departs d) p.applied ≡ tally (arrives d) p.applied

kept_after : (p : Point) → Kept p → (a : Answer Order) → ((o : Order) → a ≡ fine o → CanBeDone p.decks o.deed)
    → Kept (point_after p a)
kept_after p k (refused n w) can = record { long = k.long; most = k.most; all = k.all; each = k.each }
kept_after p k (fine o) can =
    let ds = p.decks in
    let x = o.deed in
    let h = can o refl in
    record {
      long = deed_long ds k.long x;
      most = deed_most ds k.long x h k.most;
      all =
          let t = deed_total ds k.long x h in
          let a = k.all in
          omega (arith, tally_more is_delete p.applied x, tally_more is_new p.applied x);
      each =
          λ d.
          let t = deed_deck ds k.long x h d in
          let a = k.each d in
          omega (arith, tally_more (departs d) p.applied x, tally_more (arrives d) p.applied x);
    }

kept_next : (p : Point) (c : Call) → Kept p → Kept (next p c)
unfolding next
kept_next p (musters s) k =
    kept_after p k (mustering p.decks p.book s) (applied_can_be_done p.decks p.book s)
kept_next p (closes c l) k = record { long = k.long; most = k.most; all = k.all; each = k.each }

kept_calls : (cs : List Call) (p : Point) → Kept p → Kept (after_calls p cs)
unfolding after_calls
kept_calls [] p k = k
kept_calls (c ∷ cs) p k = kept_calls cs (next p c) (kept_next p c k)

nothing_on : (n d : ℕ) → heads_on (replicate n 0) d ≡ 0
nothing_on zero d = refl
nothing_on (suc n) zero = refl
nothing_on (suc n) (suc d) = nothing_on n d

kept_start : (b : List Sender) → Kept (start b)
unfolding total tally
kept_start b =
    record {
      long = refl;
      most = λ d. let z = nothing_on deck_count d in omega arith;
      all = refl;
      each = λ d. ap (λ (j : ℕ). j + 0) (nothing_on deck_count d);
    }

pub heads_are_news_less_deletes : HeadsAreNewsLessDeletes
heads_are_news_less_deletes b cs = (kept_calls cs (start b) (kept_start b)).all

pub decks_are_arrivals_less_departures : DecksAreArrivalsLessDepartures
decks_are_arrivals_less_departures b cs d = (kept_calls cs (start b) (kept_start b)).each d

pub decks_stay_in_bounds : DecksStayInBounds
decks_stay_in_bounds b cs =
    let k = kept_calls cs (start b) (kept_start b) in
    record { many = k.long; most = k.most; least = λ d. let e = k.each d in omega arith }
