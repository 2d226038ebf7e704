-- Demand 3, of the definitions: the blanked copy of an accepted message has its build and none of its values. The
-- statements hold for any table that is lent, or for none, with which the message is accepted. Each is proved in
-- proofs/Demand3.antt.
use Rattle.std.specs.Prelude.{ℕ, ◌+◌, ◌≤◌, ◌<◌, ◌≡◌, ◌↔◌, List, ◌∷◌, length}
use Rattle.sim0mq.specs.Answer.{fine, byte}
use Rattle.sim0mq.specs.Field.{Field}
use Rattle.sim0mq.specs.Message.{Lent, Reading, reading}
use Rattle.sim0mq.specs.Blank.{blanked}

-- Place i is that of a value byte of one of these fields: of the first, or of a later one.
pub data ValueByte : List Field → ℕ → Type 0 where
  here : {f : Field} {fs : List Field} {i : ℕ} → f.first ≤ i → i < f.first + f.size → ValueByte (f ∷ fs) i
  later : {f : Field} {fs : List Field} {i : ℕ} → ValueByte fs i → ValueByte (f ∷ fs) i

-- What a blanked copy is: as long as the message, zero in each value byte, and the message's own byte elsewhere.
pub record IsBlank (s : List ℕ) (fs : List Field) (copy : List ℕ) : Type 0 where
  pub long : length copy ≡ length s
  pub zeros : (i : ℕ) → ValueByte fs i → byte copy i ≡ 0
  pub same : (i : ℕ) → (ValueByte fs i → ⊥) → byte copy i ≡ byte s i

-- The copy of an accepted message is blank in its value bytes and nowhere else.
abbrev pub CopyIsBlank : Type 0
CopyIsBlank =
    (lent : Lent) (s : List ℕ) (m : Reading) → reading lent s ≡ fine m → IsBlank s m.fields (blanked s m.fields)

-- The copy of an accepted message is accepted, and reading finds the same in it: length, frames and fields, so that
-- what it stores in a table is the same.
abbrev pub CopyIsReadAlike : Type 0
CopyIsReadAlike =
    (lent : Lent) (s : List ℕ) (m : Reading) → reading lent s ≡ fine m → reading lent (blanked s m.fields) ≡ fine m

-- Blanking a copy again changes nothing.
abbrev pub BlankingAgain : Type 0
BlankingAgain =
    (lent : Lent) (s : List ℕ) (m : Reading) → reading lent s ≡ fine m
    → blanked (blanked s m.fields) m.fields ≡ blanked s m.fields

-- Two messages of the same build, given the first one's fields: as long, and with the same byte wherever no value byte
-- is.
pub record SameBuild (fs : List Field) (s t : List ℕ) : Type 0 where
  pub long : length s ≡ length t
  pub same : (i : ℕ) → (ValueByte fs i → ⊥) → byte s i ≡ byte t i

-- Two accepted messages have the same copy exactly when they are of the same build; and then reading finds the same in
-- both.
abbrev pub CopyTellsOnlyTheBuild : Type 0
CopyTellsOnlyTheBuild =
    (lent : Lent) (s t : List ℕ) (m n : Reading) → reading lent s ≡ fine m → reading lent t ≡ fine n
    → (blanked s m.fields ≡ blanked t n.fields ↔ SameBuild m.fields s t) × (SameBuild m.fields s t → m ≡ n)
