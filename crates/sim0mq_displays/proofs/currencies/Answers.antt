-- Each arm has its word of the list, and past the last word there is none.
use mathlib.Core.Path.{refl}
use Rattle.sim0mq.specs.Codes.{among}
use Rattle.sim0mq.specs.Mark.{currency_taken}
use Rattle.sim0mq.proofs.Rows.{all_below}
use Rattle.sim0mq_tables.specs.Bits.{bit}
use Rattle.sim0mq_tables.proofs.TableCases.{none_below}
use Rattle.sim0mq_displays.proofs.CurrencyCases.{alike, agrees, word_told, none_told}
use Rattle.sim0mq_displays.proofs.currencies.Goals as goal

pub returns-in-0 : goal.returns-in-0
unfolding agrees alike all_below bit currency_taken among
returns-in-0 c = word_told 0 _ refl c.in-0.is

pub returns-in-1 : goal.returns-in-1
unfolding agrees alike all_below bit currency_taken among
returns-in-1 c = word_told 1 _ refl c.in-1.is

pub returns-in-2 : goal.returns-in-2
unfolding agrees alike all_below bit currency_taken among
returns-in-2 c = word_told 2 _ refl c.in-2.is

pub returns-in-3 : goal.returns-in-3
unfolding agrees alike all_below bit currency_taken among
returns-in-3 c = word_told 3 _ refl c.in-3.is

pub returns-in-4 : goal.returns-in-4
unfolding agrees alike all_below bit currency_taken among
returns-in-4 c = word_told 4 _ refl c.in-4.is

pub returns-in-5 : goal.returns-in-5
unfolding agrees alike all_below bit currency_taken among
returns-in-5 c = word_told 5 _ refl c.in-5.is

pub returns-in-6 : goal.returns-in-6
unfolding agrees alike all_below bit currency_taken among
returns-in-6 c = word_told 6 _ refl c.in-6.is

pub returns-in-7 : goal.returns-in-7
unfolding agrees alike all_below bit currency_taken among
returns-in-7 c = word_told 7 _ refl c.in-7.is

pub returns-in-8 : goal.returns-in-8
unfolding agrees alike all_below bit currency_taken among
returns-in-8 c = word_told 8 _ refl c.in-8.is

pub returns-in-9 : goal.returns-in-9
unfolding agrees alike all_below bit currency_taken among
returns-in-9 c = word_told 9 _ refl c.in-9.is

pub returns-in-10 : goal.returns-in-10
unfolding agrees alike all_below bit currency_taken among
returns-in-10 c = word_told 10 _ refl c.in-10.is

pub returns-in-11 : goal.returns-in-11
unfolding agrees alike all_below bit currency_taken among
returns-in-11 c = word_told 11 _ refl c.in-11.is

pub returns-in-12 : goal.returns-in-12
unfolding agrees alike all_below bit currency_taken among
returns-in-12 c = word_told 12 _ refl c.in-12.is

pub returns-in-13 : goal.returns-in-13
unfolding agrees alike all_below bit currency_taken among
returns-in-13 c = word_told 13 _ refl c.in-13.is

pub returns-in-14 : goal.returns-in-14
unfolding agrees alike all_below bit currency_taken among
returns-in-14 c = word_told 14 _ refl c.in-14.is

pub returns-in-15 : goal.returns-in-15
unfolding agrees alike all_below bit currency_taken among
returns-in-15 c = word_told 15 _ refl c.in-15.is

pub returns-in_default : goal.returns-in_default
unfolding agrees alike all_below bit currency_taken among
returns-in_default c = none_told c.args.w (none_below 16 _ c.in_default.in_default-own.rest)
