-- The commands by name (000, chapter 4): the manual's type id of each, and its row on the page.
use Rattle.std.specs.Prelude.{ℕ, ◌<◌, ◌≡◌, Bool, List, ◌↔◌, length, eqb, Result}
use Rattle.sim0mq.specs.Answer.{Answer, fine}
use Rattle.sim0mq.specs.Allowed.{Allowed}
use Rattle.sim0mq.specs.Message.{limit}
use Rattle.sim0mq.specs.Views.{said_as}
use Rattle.sim0mq.specs.declared.Refusal.{Refusal}
use Rattle.commands_page.specs.Page.{FM, FS, MC, page, row_at}
use Rattle.commands_page.specs.Judging.{commanded}
use Rattle.commands_page.specs.Parts.{IsCommandOf}
use Rattle.commands.specs.declared.Name.{Name}
use Rattle.commands.specs.declared.Name.TheVariants.{StartFederate, StarterRequestStatus, Status, FederateStarted, SimRunControl, AckNak, SetParameter, SimStart, RequestStatus, RequestStatistics, Statistics, StatisticsError, SimReset, KillFederate, KillAll, KillModel, FederateKilled, FederatesKilled}

-- The type id of each (the digits 1 to 9 are 49 to 57).
abbrev pub id_of : Name → List ℕ
id_of StartFederate = FM 49
id_of StarterRequestStatus = FS 49
id_of Status = MC 49
id_of FederateStarted = FS 50
id_of SimRunControl = FM 50
id_of AckNak = MC 50
id_of SetParameter = FM 51
id_of SimStart = FM 52
id_of RequestStatus = FM 53
id_of RequestStatistics = FM 54
id_of Statistics = MC 51
id_of StatisticsError = MC 52
id_of SimReset = FM 55
id_of KillFederate = FM 56
id_of KillAll = FM 57
id_of KillModel = FS 51
id_of FederateKilled = FS 52
id_of FederatesKilled = FS 53

-- The number of its row.
abbrev pub number_of : Name → ℕ
number_of StartFederate = 0
number_of StarterRequestStatus = 1
number_of Status = 2
number_of FederateStarted = 3
number_of SimRunControl = 4
number_of AckNak = 5
number_of SetParameter = 6
number_of SimStart = 7
number_of RequestStatus = 8
number_of RequestStatistics = 9
number_of Statistics = 10
number_of StatisticsError = 11
number_of SimReset = 12
number_of KillFederate = 13
number_of KillAll = 14
number_of KillModel = 15
number_of FederateKilled = 16
number_of FederatesKilled = 17

-- What an answer of the code says: the number of the command's row, or the refusal.
abbrev pub command_as : Result Name Refusal → Answer ℕ
command_as r = said_as number_of r

-- Fields follow by turns in FM.2, row 4.
abbrev pub repeats_of : Name → Bool
repeats_of c = eqb (number_of c) 4

-- Each command has the row of its type id; and each row has a command. Proved in proofs/NameLaws.antt, as the next.
abbrev pub RowsHaveTheirNames : Type 0
RowsHaveTheirNames =
    ((c : Name) → (number_of c < length page) × ((row_at (number_of c)).id ≡ id_of c))
    × ((k : ℕ) → k < length page → (c : Name) × (number_of c ≡ k))

-- A message is taken for a command exactly when the manual allows it as a message, and that command's row its parts.
abbrev pub AcceptsByName : Type 0
AcceptsByName =
    (s : List ℕ) (c : Name) → (commanded s ≡ fine (number_of c))
    ↔ ((a : Allowed limit s) × IsCommandOf (row_at (number_of c)) a.parts)
