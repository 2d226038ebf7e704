-- The commands of the manual (000, chapter 4; 02, Ticket 11): one row a command, in the manual's order.
use Rattle.std.specs.Prelude.{ℕ, List, [], ◌∷◌, get_or}

-- Codes that a field may have: this one; each from the first to the last; or this one with this unit type.
pub data Code : Type 0 where
  code : ℕ → Code
  span : ℕ → ℕ → Code
  unit : ℕ → ℕ → Code

-- What is asked of a field's string: nothing; that it is not empty; that it is one of these words.
pub data Rule : Type 0 where
  any : Rule
  filled : Rule
  one_of : List (List ℕ) → Rule

-- What is wanted of a field: one of these codes, and this of its string.
pub record Want : Type 0 where
  pub codes : List Code
  pub rule : Rule

abbrev pub one : ℕ → Rule → Want
one c r = record { codes = code c ∷ []; rule = r }

-- String(9), one that cannot be empty, and one of a set of words.
abbrev pub string : Want
string = one 9 any

abbrev pub filled_string : Want
filled_string = one 9 filled

-- "started", "running", "ended", "error" (000, 4.3 and 4.4).
abbrev pub state_string : Want
state_string =
    one 9
    (one_of
    ((115 ∷ 116 ∷ 97 ∷ 114 ∷ 116 ∷ 101 ∷ 100 ∷ [])
    ∷ (114 ∷ 117 ∷ 110 ∷ 110 ∷ 105 ∷ 110 ∷ 103 ∷ [])
    ∷ (101 ∷ 110 ∷ 100 ∷ 101 ∷ 100 ∷ [])
    ∷ (101 ∷ 114 ∷ 114 ∷ 111 ∷ 114 ∷ [])
    ∷ []))

-- "name", "novalue" (000, 4.12).
abbrev pub fault_string : Want
fault_string =
    one 9
    (one_of
    ((110 ∷ 97 ∷ 109 ∷ 101 ∷ [])
    ∷ (110 ∷ 111 ∷ 118 ∷ 97 ∷ 108 ∷ 117 ∷ 101 ∷ [])
    ∷ []))

-- Boolean(6), Short(1), Integer(2), Long(3), Double(5).
abbrev pub boolean : Want
boolean = one 6 any

abbrev pub short : Want
short = one 1 any

abbrev pub integer : Want
integer = one 2 any

abbrev pub long : Want
long = one 3 any

abbrev pub double : Want
double = one 5 any

-- Any type (0-32).
abbrev pub any_type : Want
any_type = record { codes = span 0 32 ∷ []; rule = any }

-- Any numeric type (1-5), or Float or Double with Unit (25, 26) of this unit type: Duration (25), Time (26).
abbrev pub number_or : ℕ → Want
number_or u = record { codes = span 1 5 ∷ unit 25 u ∷ unit 26 u ∷ []; rule = any }

abbrev pub duration : Want
duration = number_or 25

abbrev pub time : Want
time = number_or 26

-- Basic type (1,2,3,9).
abbrev pub basic : Want
basic = record { codes = span 1 3 ∷ code 9 ∷ []; rule = any }

-- The statuses (000, 2.3.5).
abbrev pub new : ℕ
new = 1

abbrev pub change : ℕ
change = 2

-- A command: its type id, its status, its fields, and what follows them by turns, as often as the last of them says
-- (nothing but in FM.2).
pub record Row : Type 0 where
  pub id : List ℕ
  pub status : ℕ
  pub fields : List Want
  pub turns : List Want

abbrev pub fixed : List ℕ → ℕ → List Want → Row
fixed i s ws = record { id = i; status = s; fields = ws; turns = [] }

-- The type ids: a letter, a letter, a dot and a digit. F is 70, M is 77, S is 83, C is 67, the dot 46, 1 is 49.
abbrev pub FM : ℕ → List ℕ
FM d = 70 ∷ 77 ∷ 46 ∷ d ∷ []

abbrev pub FS : ℕ → List ℕ
FS d = 70 ∷ 83 ∷ 46 ∷ d ∷ []

abbrev pub MC : ℕ → List ℕ
MC d = 77 ∷ 67 ∷ 46 ∷ d ∷ []

unfoldable pub page : List Row
page =
    -- 4.1 StartFederate, FM.1
    fixed (FM 49) new
    (filled_string ∷ filled_string ∷ string ∷ filled_string ∷ string ∷ filled_string ∷ string ∷ filled_string ∷ filled_string
    ∷ boolean ∷ boolean ∷ boolean ∷ [])
    -- 4.2 RequestStatus, FS.1
    ∷ fixed (FS 49) new []
    -- 4.3 Status, MC.1
    ∷ fixed (MC 49) new (long ∷ state_string ∷ string ∷ [])
    -- 4.4 FederateStarted, FS.2
    ∷ fixed (FS 50) new (string ∷ state_string ∷ short ∷ string ∷ [])
    -- 4.5 SimRunControl, FM.2
    ∷ record {
      id = FM 50;
      status = new;
      fields = duration ∷ duration ∷ time ∷ double ∷ integer ∷ integer ∷ [];
      turns = basic ∷ long ∷ [];
    }
    -- 4.6 AckNak, MC.2
    ∷ fixed (MC 50) new (long ∷ boolean ∷ string ∷ [])
    -- 4.7 SetParameter, FM.3
    ∷ fixed (FM 51) new (string ∷ any_type ∷ [])
    -- 4.8 SimStart, FM.4
    ∷ fixed (FM 52) new []
    -- 4.9 RequestStatus, FM.5
    ∷ fixed (FM 53) new []
    -- 4.10 RequestStatistics, FM.6
    ∷ fixed (FM 54) new (string ∷ [])
    -- 4.11 Statistics, MC.3
    ∷ fixed (MC 51) new (string ∷ any_type ∷ [])
    -- 4.12 StatisticsError, MC.4
    ∷ fixed (MC 52) new (string ∷ fault_string ∷ [])
    -- 4.13 SimReset, FM.7
    ∷ fixed (FM 55) change []
    -- 4.14 KillFederate, FM.8
    ∷ fixed (FM 56) new (string ∷ [])
    -- 4.15 KillAll, FM.9
    ∷ fixed (FM 57) new []
    -- 4.16 KillModel, FS.3
    ∷ fixed (FS 51) new []
    -- 4.17 FederateKilled, FS.4
    ∷ fixed (FS 52) new (string ∷ boolean ∷ string ∷ [])
    -- 4.18 FederatesKilled, FS.5
    ∷ fixed (FS 53) new (boolean ∷ string ∷ [])
    ∷ []

-- Row k of the page.
unfoldable pub row_at : ℕ → Row
row_at k = get_or page k (fixed [] 0 [])
