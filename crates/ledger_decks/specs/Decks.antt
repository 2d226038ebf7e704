-- The deck ledger (02, Ticket 14): how many heads are on each of 16 decks, and what a deed does to them.
use Rattle.std.specs.Prelude.{ℕ, ◌+◌, ◌-◌, cond, List, [], ◌∷◌, get_or, set, replicate, eqb}
use Rattle.ledger_decks.specs.declared.Deed.{Deed}
use Rattle.ledger_decks.specs.declared.Deed.TheVariants.{Joins, Moves, Leaves}

-- So many decks, 0 to 15; and so many heads, at most, on each.
abbrev pub deck_count : ℕ
deck_count = 16

abbrev pub deck_heads : ℕ
deck_heads = 65535

-- The decks of the empty ledger.
abbrev pub no_heads : List ℕ
no_heads = replicate deck_count 0

-- The heads on deck d.
abbrev pub heads_on : List ℕ → ℕ → ℕ
heads_on decks d = get_or decks d 0

-- The heads on all decks together.
unfoldable pub total : List ℕ → ℕ
total [] = 0
total (n ∷ ns) = n + total ns

-- The decks with one head more, and with one less, on deck d.
abbrev pub one_more : List ℕ → ℕ → List ℕ
one_more decks d = set decks d (heads_on decks d + 1)

abbrev pub one_less : List ℕ → ℕ → List ℕ
one_less decks d = set decks d (heads_on decks d - 1)

-- The decks after a deed: a new head joins a deck; a head joins a deck and leaves another, which is named second; a
-- head leaves a deck. A change from a deck to itself alters none.
unfoldable pub decks_after : List ℕ → Deed → List ℕ
decks_after decks (Joins joined) = one_more decks joined
decks_after decks (Moves joined left) = cond (eqb joined left) decks (one_more (one_less decks left) joined)
decks_after decks (Leaves left) = one_less decks left
