-- What the code has of the page, of a field table and of reading.
use Rattle.std.specs.Prelude.{ℕ, ◌+◌, ◌*◌, ◌<◌, ◌≡◌, Bool, true, ◌&&◌, List, [], ◌∷◌, length, get_or, ltb, Result}
use Rattle.sim0mq.specs.Answer.{Answer, ◌>>=◌}
use Rattle.sim0mq.specs.Field.{Field}
use Rattle.sim0mq.specs.Table.{row_size}
use Rattle.sim0mq.specs.Message.{table, reading}
use Rattle.sim0mq.specs.Views.{said_as}
use Rattle.sim0mq.specs.declared.Refusal.{Refusal}
use Rattle.commands_page.specs.Page.{Want, string, filled_string, state_string, fault_string, boolean, short, integer, long, double, any_type, duration, time, basic}
use Rattle.commands_page.specs.Judging.{no_field, looks, command_of}
use Rattle.commands.specs.declared.Wanted.{Wanted}
use Rattle.commands.specs.declared.Wanted.TheVariants.{Text, Filled, State, Fault, Boolean, Short, Integer, Long, Double, AnyType, Duration, Time, Basic}

-- A word has bytes, and none of them is 0.
abbrev pub no_zero : List ℕ → Bool
no_zero [] = true
no_zero (b ∷ bs) = ltb 0 b && no_zero bs

abbrev pub IsWord : List ℕ → Type 0
IsWord w = (ltb 0 (length w) && no_zero w) ≡ true

-- The wants, as the code has them.
abbrev pub want_of : Wanted → Want
want_of Text = string
want_of Filled = filled_string
want_of State = state_string
want_of Fault = fault_string
want_of Boolean = boolean
want_of Short = short
want_of Integer = integer
want_of Long = long
want_of Double = double
want_of AnyType = any_type
want_of Duration = duration
want_of Time = time
want_of Basic = basic

-- The table t holds the rows of these fields, of which there are n: what the code looks at in them.
pub record Cell (t : List ℕ) (at : ℕ) (f : Field) : Type 0 where
  pub code : get_or t at 0 ≡ f.code
  pub place : get_or t (at + 1) 0 ≡ f.place
  pub first : get_or t (at + 2) 0 ≡ f.first
  pub size : get_or t (at + 3) 0 ≡ f.size

pub record Held (t : List ℕ) (n : ℕ) (fs : List Field) : Type 0 where
  pub many : length fs ≡ n
  pub cells : (i : ℕ) → i < n → Cell t (row_size * i) (get_or fs i no_field)

-- What a judge that answers no value says.
abbrev pub done : Result (Unit {0}) Refusal → Answer (Unit {0})
done r = said_as (λ u. u) r

-- The judge over a table of r numbers: 14 where it has no room for the rows.
unfoldable pub commanded_by : ℕ → List ℕ → Answer ℕ
commanded_by r s = do
  m ← reading (table r) s
  command_of s (looks m.frames) m.fields
