-- A unit mark: a unit type and its display code (01, "Payload fields"; 000, 2.2 and Appendix A).
use Rattle.std.specs.Prelude.{ℕ, zero, suc, ◌+◌, ◌-◌, Bool, cond, List, [], ◌∷◌, get_or, leb, eqb}
use Rattle.sim0mq.specs.Answer.{Answer, fine, refused, ◌>>=◌, ◌>>◌, guard, need, byte, big}
use Rattle.sim0mq.specs.Codes.{among}

-- The last display code of unit types 0 to 28.
abbrev pub last_row : List ℕ
last_row =
    0 ∷ 8 ∷ 1 ∷ 6 ∷ 3 ∷ 21 ∷ 1 ∷ 16 ∷ 7 ∷ 8  -- 0 to 9
    ∷ 8 ∷ 38 ∷ 1 ∷ 15 ∷ 6 ∷ 16 ∷ 21 ∷ 21 ∷ 21 ∷ 24  -- 10 to 19
    ∷ 15 ∷ 16 ∷ 13 ∷ 4 ∷ 4 ∷ 10 ∷ 15 ∷ 3 ∷ 27  -- 20 to 28
    ∷ []

-- The unit type whose display codes the money types 101 to 106 use.
abbrev pub per_row : List ℕ
per_row = 5 ∷ 11 ∷ 16 ∷ 19 ∷ 25 ∷ 28 ∷ []

-- The currency codes of 000, Appendix A, 100, in its own order, ten to a line; a line names the first and the last of
-- its currencies.
abbrev pub currency_row : List ℕ
currency_row =
    784 ∷ 971 ∷ 8 ∷ 51 ∷ 532 ∷ 973 ∷ 32 ∷ 36 ∷ 533 ∷ 944  -- AED to AZN
    ∷ 977 ∷ 52 ∷ 50 ∷ 975 ∷ 48 ∷ 108 ∷ 60 ∷ 96 ∷ 68 ∷ 984  -- BAM to BOV
    ∷ 986 ∷ 44 ∷ 64 ∷ 72 ∷ 933 ∷ 974 ∷ 84 ∷ 124 ∷ 976 ∷ 947  -- BRL to CHE
    ∷ 756 ∷ 948 ∷ 990 ∷ 152 ∷ 156 ∷ 170 ∷ 970 ∷ 188 ∷ 931 ∷ 192  -- CHF to CUP
    ∷ 132 ∷ 203 ∷ 262 ∷ 208 ∷ 214 ∷ 12 ∷ 818 ∷ 232 ∷ 230 ∷ 978  -- CVE to EUR
    ∷ 242 ∷ 238 ∷ 826 ∷ 981 ∷ 936 ∷ 292 ∷ 270 ∷ 324 ∷ 320 ∷ 328  -- FJD to GYD
    ∷ 344 ∷ 340 ∷ 191 ∷ 332 ∷ 348 ∷ 360 ∷ 376 ∷ 356 ∷ 368 ∷ 364  -- HKD to IRR
    ∷ 352 ∷ 388 ∷ 400 ∷ 392 ∷ 404 ∷ 417 ∷ 116 ∷ 174 ∷ 408 ∷ 410  -- ISK to KRW
    ∷ 414 ∷ 136 ∷ 398 ∷ 418 ∷ 422 ∷ 144 ∷ 430 ∷ 426 ∷ 434 ∷ 504  -- KWD to MAD
    ∷ 498 ∷ 969 ∷ 807 ∷ 104 ∷ 496 ∷ 446 ∷ 478 ∷ 480 ∷ 462 ∷ 454  -- MDL to MWK
    ∷ 484 ∷ 979 ∷ 458 ∷ 943 ∷ 516 ∷ 566 ∷ 558 ∷ 578 ∷ 524 ∷ 554  -- MXN to NZD
    ∷ 512 ∷ 590 ∷ 604 ∷ 598 ∷ 608 ∷ 586 ∷ 985 ∷ 600 ∷ 634 ∷ 946  -- OMR to RON
    ∷ 941 ∷ 643 ∷ 646 ∷ 682 ∷ 90 ∷ 690 ∷ 938 ∷ 752 ∷ 702 ∷ 654  -- RSD to SHP
    ∷ 694 ∷ 706 ∷ 968 ∷ 728 ∷ 678 ∷ 222 ∷ 760 ∷ 748 ∷ 764 ∷ 972  -- SLL to TJS
    ∷ 934 ∷ 788 ∷ 776 ∷ 949 ∷ 780 ∷ 901 ∷ 834 ∷ 980 ∷ 800 ∷ 840  -- TMT to USD
    ∷ 997 ∷ 940 ∷ 858 ∷ 860 ∷ 937 ∷ 704 ∷ 548 ∷ 882 ∷ 950 ∷ 961  -- USN to XAG
    ∷ 959 ∷ 955 ∷ 956 ∷ 957 ∷ 958 ∷ 951 ∷ 960 ∷ 952 ∷ 964 ∷ 953  -- XAU to XPF
    ∷ 962 ∷ 994 ∷ 963 ∷ 965 ∷ 999 ∷ 886 ∷ 710 ∷ 967 ∷ 932 ∷ 1000  -- XPT to XBT
    ∷ []

-- What follows a unit type: a display code of unit type t; a currency code; a currency code, then a display code of
-- unit type t.
pub data Kind : Type 0 where
  plain : ℕ → Kind
  money : Kind
  money_per : ℕ → Kind
  unknown : Kind

-- Unit types are 0 to 28, 100, and 101 to 106 (000, 2.2 and 2.2.9).
unfoldable pub kind_of : ℕ → Kind
kind_of u =
    cond (leb u 28) (plain u)
    (cond (leb u 99) unknown
    (cond (eqb u 100) money
    (cond (leb u 106) (money_per (get_or per_row (u - 101) 0))
    unknown)))

-- Is c a currency code (02, Ticket 3)?
unfoldable pub currency_taken : ℕ → Bool
currency_taken c = among c currency_row

-- Is d a display code of unit type t?
unfoldable pub display_taken : ℕ → ℕ → Bool
display_taken t d = leb d (get_or last_row t 0)

-- Each item of a mark is there (1) before it is judged (11; 19, a currency; 12, a display code); the answer is the
-- place after it (01, the order in a field).
unfoldable pub currency : List ℕ → ℕ → Answer ℕ
currency s at = do
  need s at 2
  guard (currency_taken (big s at 2)) 19 at
  fine (at + 2)

unfoldable pub display : List ℕ → ℕ → ℕ → Answer ℕ
display s t at = do
  need s at 1
  guard (display_taken t (byte s at)) 12 at
  fine (at + 1)

-- What follows the unit type, of this kind, that stands at `at`.
unfoldable pub mark_rest : List ℕ → ℕ → Kind → Answer ℕ
mark_rest s at (plain t) = display s t (at + 1)
mark_rest s at money = currency s (at + 1)
mark_rest s at (money_per t) = do
  p ← currency s (at + 1)
  display s t p
mark_rest s at unknown = refused 11 at

unfoldable pub mark : List ℕ → ℕ → Answer ℕ
mark s at = do
  need s at 1
  mark_rest s at (kind_of (byte s at))

-- The n marks from `at` on, one after the other: the place after them.
unfoldable pub marks : List ℕ → ℕ → ℕ → Answer ℕ
marks s zero at = fine at
marks s (suc n) at = do
  p ← mark s at
  marks s n p
