-- Each name has the row of its type id, and each row a name: it is seen case by case.
use Prim.Native.Nat.{ℕ, ◌<◌}
use mathlib.Core.Path.{◌≡◌, refl, ap, sym, ◌∙◌}
use mathlib.Core.List.{List, [], ◌∷◌}
use native.Mathlib.Omega.{arith}
use lib.ListN.{length, get_or}
use lib.Dec.{eqb}
use borrow.Author.Tests.{eqb-true}
use Rattle.sim0mq.proofs.Rows.{all_below, below_at}
use Rattle.commands_page.specs.Page.{page, row_at}
use Rattle.commands_page.proofs.PageLaws.{page_long}
use Rattle.commands_page.proofs.Parts.{accepts_commands}
use Rattle.commands.specs.declared.Name.{Name}
use Rattle.commands.specs.declared.Name.TheVariants.{StartFederate, StarterRequestStatus, Status, FederateStarted, SimRunControl, AckNak, SetParameter, SimStart, RequestStatus, RequestStatistics, Statistics, StatisticsError, SimReset, KillFederate, KillAll, KillModel, FederateKilled, FederatesKilled}
use Rattle.commands.specs.Names.{id_of, number_of, RowsHaveTheirNames, AcceptsByName}

below : (c : Name) → number_of c < length page
unfolding page
below StartFederate = omega arith
below StarterRequestStatus = omega arith
below Status = omega arith
below FederateStarted = omega arith
below SimRunControl = omega arith
below AckNak = omega arith
below SetParameter = omega arith
below SimStart = omega arith
below RequestStatus = omega arith
below RequestStatistics = omega arith
below Statistics = omega arith
below StatisticsError = omega arith
below SimReset = omega arith
below KillFederate = omega arith
below KillAll = omega arith
below KillModel = omega arith
below FederateKilled = omega arith
below FederatesKilled = omega arith

pub in_page : (c : Name) → number_of c < 18
in_page c = let b = below c in let long = page_long in omega arith

its_id : (c : Name) → (row_at (number_of c)).id ≡ id_of c
unfolding page row_at
its_id StartFederate = refl
its_id StarterRequestStatus = refl
its_id Status = refl
its_id FederateStarted = refl
its_id SimRunControl = refl
its_id AckNak = refl
its_id SetParameter = refl
its_id SimStart = refl
its_id RequestStatus = refl
its_id RequestStatistics = refl
its_id Statistics = refl
its_id StatisticsError = refl
its_id SimReset = refl
its_id KillFederate = refl
its_id KillAll = refl
its_id KillModel = refl
its_id FederateKilled = refl
its_id FederatesKilled = refl

-- the names in the order of the rows
abbrev names : List Name
names =
    StartFederate ∷ StarterRequestStatus ∷ Status ∷ FederateStarted ∷ SimRunControl ∷ AckNak ∷ SetParameter ∷ SimStart
    ∷ RequestStatus ∷ RequestStatistics ∷ Statistics ∷ StatisticsError ∷ SimReset ∷ KillFederate ∷ KillAll ∷ KillModel
    ∷ FederateKilled ∷ FederatesKilled ∷ []

named_at : (k : ℕ) → k < 18 → number_of (get_or names k StartFederate) ≡ k
unfolding all_below
named_at k h = eqb-true _ k (below_at (λ (j : ℕ). eqb (number_of (get_or names j StartFederate)) j) 18 k refl h)

-- so a name is known by its row
its_name : (c : Name) → get_or names (number_of c) StartFederate ≡ c
its_name StartFederate = refl
its_name StarterRequestStatus = refl
its_name Status = refl
its_name FederateStarted = refl
its_name SimRunControl = refl
its_name AckNak = refl
its_name SetParameter = refl
its_name SimStart = refl
its_name RequestStatus = refl
its_name RequestStatistics = refl
its_name Statistics = refl
its_name StatisticsError = refl
its_name SimReset = refl
its_name KillFederate = refl
its_name KillAll = refl
its_name KillModel = refl
its_name FederateKilled = refl
its_name FederatesKilled = refl

pub same_name : (c d : Name) → number_of c ≡ number_of d → c ≡ d
same_name c d e = sym (its_name c) ∙ ap (λ (k : ℕ). get_or names k StartFederate) e ∙ its_name d

pub rows_have_their_names : RowsHaveTheirNames
rows_have_their_names =
    (λ c. (below c, its_id c), λ k h. (get_or names k StartFederate, named_at k (let n = page_long in omega arith)))

pub accepts_by_name : AcceptsByName
accepts_by_name s c = let both = accepts_commands s (number_of c) in (λ e. (both.0 e).1, λ a. both.1 (below c, a))
