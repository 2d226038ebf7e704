-- What the ledger's judgement answers, over the definitions of mustering.
use Rattle.std.specs.Prelude.{ℕ, ◌≡◌, ◌≤◌, ◌<◌, List, Result, Ok, Err}
use Rattle.sim0mq.specs.Answer.{Answer, refused}
use Rattle.sim0mq.specs.Field.{Field, outline}
use Rattle.sim0mq.specs.Views.{number_of, said_as}
use Rattle.sim0mq.specs.declared.Refusal.{Refusal}
use Rattle.ledger_decks.specs.Decks.{deck_count}
use Rattle.ledger_decks.specs.declared.Deed.{Deed}
use Rattle.ledger_decks.specs.Mustering.{value_in, deed_for, ordering_at, following}

-- The ledger's judgement, as an answer of the definitions.
abbrev pub ordered : Result Deed Refusal → Answer Deed
ordered r = said_as (λ d. d) r

-- The field f is a byte, or is refused by 22.
abbrev pub IsByte : Field → Result (Unit {0}) Refusal → Type 0
IsByte f (Ok u) = f.code ≡ 0
IsByte f (Err r) = (f.code ≡ 0 → ⊥) × ◌≡◌ {A = Answer Deed} (refused (number_of r.reason) r.place) (refused 22 f.place)

-- The field f names this deck, or is refused by 29.
abbrev pub NamesDeck : List ℕ → Field → Result ℕ Refusal → Type 0
NamesDeck s f (Ok d) = (d ≡ value_in s f) × (d < deck_count)
NamesDeck s f (Err r) = (deck_count ≤ value_in s f) × ◌≡◌ {A = Answer Deed} (refused (number_of r.reason) r.place) (refused 29 f.place)

-- What a message of this status does, and the ledger's judgement of a message of n fields, where its frames stand at
-- these places.
abbrev pub deed_after : ℕ → List ℕ → List ℕ → ℕ → Answer Deed
deed_after status decks s count =
    deed_for status decks s (following s (outline s count)) (following s (following s (outline s count)))

abbrev pub ordering_by : List ℕ → List ℕ → ℕ → ℕ → ℕ → ℕ → Answer Deed
ordering_by decks s kind status count n =
    ordering_at decks s kind status n (following s (outline s count)) (following s (following s (outline s count)))
