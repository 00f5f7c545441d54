-- What stands between the quotes of a UTF-8 text, without its escapes, is UTF-8.
use Rattle.std.proofs.Common.{◌≡◌, ◌∙◌, ◌<◌, ◌+◌, ◌*◌, ◌-◌, ◌≤◌, ℕ, List, [], ◌∷◌, ◌++◌, length, get_or, take, drop, Bool, true, false, cond, ◌&&◌, ◌||◌, ◌==◌, nat_lt, nat_le, Option, Some, None, option_and_then, IsUtf8, refl, sym, ap, subst, arith, append_assoc, append-nil, length-append, inl, inr}
use Rattle.std.proofs.lemmas.Bool.{and_parts, or_cases, eqb-true, ltb-true, ltb-false, leb-true, leb-false, lt-ltb, le-ltb, le-leb, lt-leb, cases_lt}
use Rattle.std.proofs.lemmas.List.{get_or_at, take_at, drop_at}
use Rattle.std.proofs.lemmas.Str.{IsUtf8-append, IsUtf8-encode, IsUtf8-take, IsUtf8-drop, IsCharBoundary-before_ascii, IsCharBoundary-after_ascii}
use Rattle.std.specs.Char.{digit_value, is_digit, encode_utf8, IsScalar}
use Rattle.json.specs.Text.{Within, plain, after_backslash, after_u, after_high, code_unit, short_escape, is_high_surrogate, is_low_surrogate, surrogate_pair, prepend, content}
use Rattle.json.proofs.Printed.Utf8.{IsUtf8-are_ascii}

-- ---- a text is cut before and after an ASCII byte

module _ (p xs : List ℕ) (x : ℕ) (small : x < 128) (u : IsUtf8 (p ++ x ∷ xs)) where
  pub before : IsUtf8 p
  before =
      let here : get_or (p ++ x ∷ xs) (length p) 0 ≡ x = get_or_at p x xs 0 (length p) refl in
      let within : length p < length (p ++ x ∷ xs) = omega (arith, length-append p (x ∷ xs)) in
      subst IsUtf8 (take_at p (x ∷ xs) (length p) refl)
      (IsUtf8-take (p ++ x ∷ xs) (length p) u (IsCharBoundary-before_ascii (p ++ x ∷ xs) (length p) within (omega (arith, here, small))))

  pub after : IsUtf8 xs
  after =
      let here : get_or (p ++ x ∷ xs) (length p) 0 ≡ x = get_or_at p x xs 0 (length p) refl in
      let within : length p < length (p ++ x ∷ xs) = omega (arith, length-append p (x ∷ xs)) in
      let rest : drop (length p + 1) (p ++ x ∷ xs) ≡ xs =
      ap (drop (length p + 1)) (sym (append_assoc p (x ∷ []) xs)) ∙ drop_at (p ++ x ∷ []) xs (length p + 1) (length-append p (x ∷ [])) in
      subst IsUtf8 rest
      (IsUtf8-drop (p ++ x ∷ xs) (length p + 1) u (IsCharBoundary-after_ascii (p ++ x ∷ xs) (length p) u within (omega (arith, here, small))))

pub moved : (p xs : List ℕ) (x : ℕ) → IsUtf8 (p ++ x ∷ xs) → IsUtf8 ((p ++ x ∷ []) ++ xs)
moved p xs x u = subst IsUtf8 (sym (append_assoc p (x ∷ []) xs)) u

-- ---- what an escape stands for

prepended : (b : List ℕ) (o : Option (List ℕ)) (s : List ℕ) → prepend b o ≡ Some s → (t : List ℕ) × (o ≡ Some t) × (b ++ t ≡ s)
prepended b None s e = absurd cc
prepended b (Some t) s e = let same : b ++ t ≡ s = cc in (t, refl, same)

short_ascii : (x c : ℕ) → short_escape x ≡ Some c → (x < 128) × (c < 128)
unfolding short_escape
short_ascii x c e = grind (arith, e)

hex_ascii : (c : ℕ) → is_digit c 16 ≡ true → (c < 128) × (digit_value c < 16)
hex_ascii c h = let value = ltb-true _ _ h in (elim (cases_lt c 128) [ inl small ↦ small | inr large ↦ absurd (too_large c large value) ], value)
  where
    too_large : (c : ℕ) → 128 ≤ c → digit_value c < 16 → ⊥
    too_large c large h =
        let value : digit_value c ≡ 36 =
        rw (
          le-ltb c 48 (omega arith),
          le-ltb c 58 (omega arith),
          le-ltb c 65 (omega arith),
          le-ltb c 91 (omega arith),
          le-ltb c 97 (omega arith),
          le-ltb c 123 (omega arith),
        ) refl in
        omega (arith, value)

record IsUnit (a b c d u : ℕ) : Type 0 where
  first : a < 128
  second : b < 128
  third : c < 128
  fourth : d < 128
  small : u < 65536

unit_by : (a b c d u : ℕ) (t : Bool) → (is_digit a 16 && is_digit b 16 && is_digit c 16 && is_digit d 16) ≡ t
    → cond t (Some (digit_value a * 4096 + digit_value b * 256 + digit_value c * 16 + digit_value d)) None ≡ Some u → IsUnit a b c d u
unit_by a b c d u false is e = absurd cc
unit_by a b c d u true is e =
    let last = and_parts (is_digit a 16 && is_digit b 16 && is_digit c 16) (is_digit d 16) is in
    let three = and_parts (is_digit a 16 && is_digit b 16) (is_digit c 16) last.0 in
    let two = and_parts (is_digit a 16) (is_digit b 16) three.0 in
    let ha = hex_ascii a two.0 in
    let hb = hex_ascii b two.1 in
    let hc = hex_ascii c three.1 in
    let hd = hex_ascii d last.1 in
    let same : digit_value a * 4096 + digit_value b * 256 + digit_value c * 16 + digit_value d ≡ u = cc in
    record { first = ha.0; second = hb.0; third = hc.0; fourth = hd.0; small = omega (arith, ha.1, hb.1, hc.1, hd.1, same) }

unit_is : (a b c d u : ℕ) → code_unit a b c d ≡ Some u → IsUnit a b c d u
unfolding code_unit
unit_is a b c d u e = unit_by a b c d u _ refl e

-- ---- the content

-- what was read and what is still to come
abbrev Given : Within → List ℕ → List ℕ → Type 0
Given plain p xs = IsUtf8 (p ++ xs)
Given after_backslash p xs = IsUtf8 p × IsUtf8 xs
Given after_u p xs = IsUtf8 p × IsUtf8 xs
Given (after_high h) p xs = IsUtf8 p × IsUtf8 xs × (is_high_surrogate h ≡ true)

at_byte : (p xs : List ℕ) (x : ℕ) (s : List ℕ) (b q r : Bool) → (x == 34) ≡ b → (x == 92) ≡ q → IsUtf8 (p ++ x ∷ xs)
    → (escaped later : Option (List ℕ)) → (IsUtf8 p × IsUtf8 xs → escaped ≡ Some s → IsUtf8 (p ++ s))
    → ((t : List ℕ) → IsUtf8 ((p ++ x ∷ []) ++ xs) → later ≡ Some t → IsUtf8 ((p ++ x ∷ []) ++ t))
    → cond b (Some []) (cond q escaped (cond r None (prepend (x ∷ []) later))) ≡ Some s → IsUtf8 (p ++ s)
at_byte p xs x s true q r quote slash u escaped later h k e =
    let none : [] ≡ s = cc in
    subst (λ (t : List ℕ). IsUtf8 (p ++ t)) none (subst IsUtf8 (sym (append-nil p)) (before p xs x (omega (arith, eqb-true x 34 quote)) u))
at_byte p xs x s false true r quote slash u escaped later h k e =
    let small : x < 128 = omega (arith, eqb-true x 92 slash) in
    h (before p xs x small u, after p xs x small u) e
at_byte p xs x s false false true quote slash u escaped later h k e = absurd cc
at_byte p xs x s false false false quote slash u escaped later h k e =
    let rest = prepended (x ∷ []) later s e in
    subst (λ (t : List ℕ). IsUtf8 (p ++ t)) rest.2 (subst IsUtf8 (append_assoc p (x ∷ []) rest.0) (k rest.0 (moved p xs x u) rest.1))

-- a character c stands for what was read, and the text goes on behind it
at_char : (p xs cs s : List ℕ) → IsUtf8 p → IsUtf8 xs → IsUtf8 cs → (later : Option (List ℕ))
    → ((t : List ℕ) → IsUtf8 ((p ++ cs) ++ xs) → later ≡ Some t → IsUtf8 ((p ++ cs) ++ t)) → prepend cs later ≡ Some s → IsUtf8 (p ++ s)
at_char p xs cs s up ux uc later k e =
    let rest = prepended cs later s e in
    subst (λ (t : List ℕ). IsUtf8 (p ++ t)) rest.2
    (subst IsUtf8 (append_assoc p cs rest.0) (k rest.0 (IsUtf8-append (p ++ cs) xs (IsUtf8-append p cs up uc) ux) rest.1))

at_escape : (p xs : List ℕ) (x : ℕ) (s : List ℕ) (b : Bool) → (x == 117) ≡ b → IsUtf8 p × IsUtf8 (x ∷ xs)
    → (coded later : Option (List ℕ)) → (IsUtf8 p × IsUtf8 xs → coded ≡ Some s → IsUtf8 (p ++ s))
    → ((q t : List ℕ) → IsUtf8 (q ++ xs) → later ≡ Some t → IsUtf8 (q ++ t))
    → (o : Option ℕ) → short_escape x ≡ o → cond b coded (option_and_then (λ c. prepend (c ∷ []) later) o) ≡ Some s → IsUtf8 (p ++ s)
at_escape p xs x s true is u coded later h k o short e = h (u.0, after [] xs x (omega (arith, eqb-true x 117 is)) u.1) e
at_escape p xs x s false is u coded later h k None short e = absurd cc
at_escape p xs x s false is u coded later h k (Some c) short e =
    let small = short_ascii x c short in
    at_char p xs (c ∷ []) s u.0 (after [] xs x small.0 u.1) (IsUtf8-are_ascii (c ∷ []) (rw (lt-ltb c 128 small.1) refl)) later (k (p ++ c ∷ [])) e

four_on : (a b c d u : ℕ) (xs : List ℕ) → IsUnit a b c d u → IsUtf8 (a ∷ b ∷ c ∷ d ∷ xs) → IsUtf8 xs
four_on a b c d u xs h v = after [] xs d h.fourth (after [] (d ∷ xs) c h.third (after [] (c ∷ d ∷ xs) b h.second (after [] (b ∷ c ∷ d ∷ xs) a h.first v)))

low_unit : (u : ℕ) → u < 65536 → is_high_surrogate u ≡ false → is_low_surrogate u ≡ false → IsScalar u
low_unit u small high low = grind (arith, small, high, low)

pair_scalar : (h l : ℕ) → is_high_surrogate h ≡ true → is_low_surrogate l ≡ true → IsScalar (surrogate_pair h l)
pair_scalar h l high low =
    let a = and_parts (nat_le 0xd800 h) (nat_lt h 0xdc00) high in
    let b = and_parts (nat_le 0xdc00 l) (nat_lt l 0xe000) low in
    let least : 0xd800 ≤ h = leb-true _ _ a.0 in
    let most : h < 0xdc00 = ltb-true _ _ a.1 in
    let least_low : 0xdc00 ≤ l = leb-true _ _ b.0 in
    let most_low : l < 0xe000 = ltb-true _ _ b.1 in
    let above : 0x10000 ≤ surrogate_pair h l = omega arith in
    let below : surrogate_pair h l < 0x110000 = omega arith in
    plane (surrogate_pair h l) above below
  where
    plane : (c : ℕ) → 0x10000 ≤ c → c < 0x110000 → IsScalar c
    plane c above below = grind (arith, above, below)

at_unit : (p xs : List ℕ) (a b c d : ℕ) (s : List ℕ) → IsUtf8 p → IsUtf8 (a ∷ b ∷ c ∷ d ∷ xs)
    → (later : Option (List ℕ)) → (pair : ℕ → Option (List ℕ))
    → ((h : ℕ) → IsUtf8 p × IsUtf8 xs × (is_high_surrogate h ≡ true) → pair h ≡ Some s → IsUtf8 (p ++ s))
    → ((q t : List ℕ) → IsUtf8 (q ++ xs) → later ≡ Some t → IsUtf8 (q ++ t))
    → (o : Option ℕ) → code_unit a b c d ≡ o
    → option_and_then (λ u. cond (is_high_surrogate u) (pair u) (cond (is_low_surrogate u) None (prepend (encode_utf8 u) later))) o ≡ Some s → IsUtf8 (p ++ s)
at_unit p xs a b c d s up v later pair h k None is e = absurd cc
at_unit p xs a b c d s up v later pair h k (Some u) is e = by (is_high_surrogate u) (is_low_surrogate u) refl refl e
  where
    unit : IsUnit a b c d u
    unit = unit_is a b c d u is

    ux : IsUtf8 xs
    ux = four_on a b c d u xs (unit_is a b c d u is) v

    by : (high low : Bool) → is_high_surrogate u ≡ high → is_low_surrogate u ≡ low → cond high (pair u) (cond low None (prepend (encode_utf8 u) later)) ≡ Some s → IsUtf8 (p ++ s)
    by true low is_high is_low e = h u (up, ux, is_high) e
    by false true is_high is_low e = absurd cc
    by false false is_high is_low e =
        at_char p xs (encode_utf8 u) s up ux (IsUtf8-encode u (low_unit u unit.small is_high is_low)) later (k (p ++ encode_utf8 u)) e

at_low : (p xs : List ℕ) (h x u a b c d : ℕ) (s : List ℕ) (t : Bool) → ((x == 92) && (u == 117)) ≡ t
    → IsUtf8 p × IsUtf8 (x ∷ u ∷ a ∷ b ∷ c ∷ d ∷ xs) × (is_high_surrogate h ≡ true) → (later : Option (List ℕ))
    → ((q t : List ℕ) → IsUtf8 (q ++ xs) → later ≡ Some t → IsUtf8 (q ++ t))
    → (o : Option ℕ) → code_unit a b c d ≡ o
    → cond t (option_and_then (λ l. cond (is_low_surrogate l) (prepend (encode_utf8 (surrogate_pair h l)) later) None) o) None ≡ Some s → IsUtf8 (p ++ s)
at_low p xs h x u a b c d s false test given later k o is e = absurd cc
at_low p xs h x u a b c d s true test given later k None is e = absurd cc
at_low p xs h x u a b c d s true test given later k (Some l) is e = by (is_low_surrogate l) refl e
  where
    both : (x ≡ 92) × (u ≡ 117)
    both = let p = and_parts (x == 92) (u == 117) test in (eqb-true x 92 p.0, eqb-true u 117 p.1)

    ux : IsUtf8 xs
    ux =
        four_on a b c d l xs (unit_is a b c d l is)
        (after [] (a ∷ b ∷ c ∷ d ∷ xs) u (omega (arith, both.1)) (after [] (u ∷ a ∷ b ∷ c ∷ d ∷ xs) x (omega (arith, both.0)) given.1))

    by : (low : Bool) → is_low_surrogate l ≡ low → cond low (prepend (encode_utf8 (surrogate_pair h l)) later) None ≡ Some s → IsUtf8 (p ++ s)
    by false is_low e = absurd cc
    by true is_low e =
        at_char p xs (encode_utf8 (surrogate_pair h l)) s given.0 ux (IsUtf8-encode _ (pair_scalar h l given.2 is_low)) later
        (k (p ++ encode_utf8 (surrogate_pair h l))) e

pub content_utf8 : (w : Within) (p xs s : List ℕ) → Given w p xs → content w xs ≡ Some s → IsUtf8 (p ++ s)
unfolding content
content_utf8 plain p [] s u e = absurd cc
content_utf8 plain p (x ∷ xs) s u e =
    at_byte p xs x s _ _ _ refl refl u (content after_backslash xs) (content plain xs) (content_utf8 after_backslash p xs s) (content_utf8 plain (p ++ x ∷ []) xs) e
content_utf8 after_backslash p [] s u e = absurd cc
content_utf8 after_backslash p (x ∷ xs) s u e =
    at_escape p xs x s _ refl u (content after_u xs) (content plain xs) (content_utf8 after_u p xs s) (λ q t. content_utf8 plain q xs t) _ refl e
content_utf8 after_u p [] s u e = absurd cc
content_utf8 after_u p (a ∷ []) s u e = absurd cc
content_utf8 after_u p (a ∷ b ∷ []) s u e = absurd cc
content_utf8 after_u p (a ∷ b ∷ c ∷ []) s u e = absurd cc
content_utf8 after_u p (a ∷ b ∷ c ∷ d ∷ xs) s u e =
    at_unit p xs a b c d s u.0 u.1 (content plain xs) (λ h. content (after_high h) xs) (λ h. content_utf8 (after_high h) p xs s) (λ q t. content_utf8 plain q xs t) _ refl e
content_utf8 (after_high h) p [] s u e = absurd cc
content_utf8 (after_high h) p (x ∷ []) s u e = absurd cc
content_utf8 (after_high h) p (x ∷ y ∷ []) s u e = absurd cc
content_utf8 (after_high h) p (x ∷ y ∷ a ∷ []) s u e = absurd cc
content_utf8 (after_high h) p (x ∷ y ∷ a ∷ b ∷ []) s u e = absurd cc
content_utf8 (after_high h) p (x ∷ y ∷ a ∷ b ∷ c ∷ []) s u e = absurd cc
content_utf8 (after_high h) p (x ∷ y ∷ a ∷ b ∷ c ∷ d ∷ xs) s u e =
    at_low p xs h x y a b c d s _ refl u (content plain xs) (λ q t. content_utf8 plain q xs t) _ refl e
