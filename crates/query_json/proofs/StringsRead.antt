-- The strings of a value that was read from a UTF-8 text are UTF-8, and its whole numbers have 64 bits.
use Rattle.std.proofs.Common.{◌≡◌, ◌∙◌, ◌<◌, ◌^◌, ℕ, zero, suc, List, [], ◌∷◌, ◌++◌, ◌-◌, length, take, drop, nat_eq, slice_index, Bool, true, false, cond, ◌&&◌, ◌||◌, ◌==◌, nat_lt, nat_le, Option, Some, None, IsUtf8, refl, sym, ap, subst, arith}
use Rattle.std.specs.Prelude.{⊤, option_and_then, option_map, if◌then◌else◌}
use Rattle.std.specs.Ordering.{nat_cmp, match_ordering}
use Rattle.std.proofs.Common.{Ordering, Less, Equal, Greater}
use Rattle.std.specs.Cmp.Lexicographic.{slice_cmp}
use Rattle.std.specs.List.{starts_with}
use Rattle.std.proofs.lemmas.Bool.{and_parts, eqb-true, ltb-true}
use Rattle.std.specs.Float.{binary64, float_is_finite}
use Rattle.fast_float.specs.Text.{Parts, minus, scan, digits_of, nearest, with_sign}
use Rattle.json.specs.Ascii as ascii
use Rattle.json.specs.Token as token
use Rattle.json.specs.Token.{Token}
use Rattle.json.specs.Lex as lex
use Rattle.json.specs.Lex.{Class, Lexeme, Mode, Place, begins_colon, class, if_allowed, lex_byte, may_begin, may_close, operator_lexeme, place_token, punctuate, string_token, tokens}
use Rattle.json.specs.Text.{content, plain}
pub use Rattle.json.proofs.Printed.Utf8.{IsUtf8-are_ascii, are_ascii}
use Rattle.json.specs.Word.{after_number, ends_word, head, is_operator, is_space, literal, number_before, word}
use Rattle.json.specs.Json as json
use Rattle.json.specs.Json.{Json, Parse, after_end_array, if_last, items_step, members_step, parse_map, read_key}
use Rattle.serde_json.specs.Data.{Num, unsigned, negative, float, Data, null, boolean, number, string, array, object, Items, no_items, item, Members, no_members, member, put}
use Rattle.serde_json.specs.Read.{float_of, is_integer, max_depth, number_from, number_of, of_items, of_json, of_members, read}
use Rattle.query_json.proofs.StringContents.{after, content_utf8, moved}

-- ---- lexemes

-- behind each ASCII byte the text is UTF-8
abbrev Follows : List ℕ → Type 0
Follows [] = ⊤
Follows (x ∷ xs) = (x < 128 → IsUtf8 xs) × Follows xs

follows : (p xs : List ℕ) → IsUtf8 (p ++ xs) → Follows xs
follows p [] u = tt
follows p (x ∷ xs) u = (λ small. after p xs x small u, follows (p ++ x ∷ []) xs (moved p xs x u))

abbrev IsText : Token → Type 0
IsText token.begin_object = ⊤
IsText token.end_object = ⊤
IsText token.begin_array = ⊤
IsText token.end_array = ⊤
IsText (token.key s) = IsUtf8 s
IsText (token.string s) = IsUtf8 s
IsText (token.number s) = ⊤
IsText (token.boolean b) = ⊤
IsText token.null = ⊤
IsText token.bad = ⊤

abbrev OfText : Lexeme → Type 0
OfText (lex.token t) = IsText t
OfText lex.comma = ⊤
OfText lex.colon = ⊤

abbrev AllOfText : List Lexeme → Type 0
AllOfText [] = ⊤
AllOfText (l ∷ ls) = OfText l × AllOfText ls

operator_by : (a b c d e : Bool) → OfText (cond a (lex.token token.begin_object) (cond b (lex.token token.end_object) (cond c (lex.token token.begin_array) (cond d (lex.token token.end_array) (cond e lex.comma lex.colon)))))
operator_by true b c d e = tt
operator_by false true c d e = tt
operator_by false false true d e = tt
operator_by false false false true e = tt
operator_by false false false false true = tt
operator_by false false false false false = tt

operators : (x : ℕ) → OfText (operator_lexeme x)
operators x = operator_by (x == ascii.open_brace) (x == ascii.close_brace) (x == ascii.open_bracket) (x == ascii.close_bracket) (x == ascii.comma)

string_text : (xs : List ℕ) (o : Option (List ℕ)) → content plain xs ≡ o → IsUtf8 xs → IsText (string_token o)
string_text xs None e u = tt
string_text xs (Some s) e u = content_utf8 plain [] xs s u e

or_bad : (b : Bool) (t : Token) → IsText t → IsText (cond b t token.bad)
or_bad true t h = h
or_bad false t h = tt

number_text : (t : List ℕ) (o : Option (List ℕ)) → IsText (number_before t o)
number_text t None = tt
number_text t (Some rest) = or_bad (ends_word rest) (token.number (take (length t - length rest) t)) tt

literal_text : (name : List ℕ) (u : Token) (t : List ℕ) → IsText u → IsText (literal name u t)
literal_text name u t h = or_bad (starts_with nat_eq t name && ends_word (drop (length name) t)) u h

word_by : (a b c : Bool) (t u v w : Token) → IsText t → IsText u → IsText v → IsText w → IsText (cond a t (cond b u (cond c v w)))
word_by true b c t u v w p q r s = p
word_by false true c t u v w p q r s = q
word_by false false true t u v w p q r s = r
word_by false false false t u v w p q r s = s

words : (t : List ℕ) → IsText (word t)
unfolding word
words t =
    word_by (head t == ascii.lower_t) (head t == ascii.lower_f) (head t == ascii.lower_n)
    (literal ascii.true_text (token.boolean true) t) (literal ascii.false_text (token.boolean false) t) (literal ascii.null_text token.null t) (number_before t (after_number t))
    (literal_text ascii.true_text (token.boolean true) t tt) (literal_text ascii.false_text (token.boolean false) t tt) (literal_text ascii.null_text token.null t tt) (number_text t (after_number t))

quote_is : (x : ℕ) (a b c d : Bool) → (x == 34) ≡ a → cond a lex.quote (cond b lex.backslash (cond c lex.operator (cond d lex.space lex.other))) ≡ lex.quote → x ≡ 34
quote_is x true b c d is e = eqb-true x 34 is
quote_is x false true c d is e = absurd cc
quote_is x false false true d is e = absurd cc
quote_is x false false false true is e = absurd cc
quote_is x false false false false is e = absurd cc

at_byte : (m : Mode) (c : Class) (x : ℕ) (xs : List ℕ) → class x ≡ c → (x < 128 → IsUtf8 xs) → (k : Mode → List Lexeme)
    → ((next : Mode) → AllOfText (k next)) → AllOfText (lex_byte m c x xs k)
at_byte lex.between lex.quote x xs is u k h =
    (string_text xs (content plain xs) refl (u (omega (arith, quote_is x (x == 34) (x == 92) (is_operator x) (is_space x) refl is))), h lex.in_string)
at_byte lex.between lex.backslash x xs is u k h = (tt, h lex.in_word)
at_byte lex.between lex.operator x xs is u k h = (operators x, h lex.between)
at_byte lex.between lex.space x xs is u k h = h lex.between
at_byte lex.between lex.other x xs is u k h = (words (x ∷ xs), h lex.in_word)
at_byte lex.in_word lex.quote x xs is u k h = h lex.in_word
at_byte lex.in_word lex.backslash x xs is u k h = h lex.in_word
at_byte lex.in_word lex.operator x xs is u k h = (operators x, h lex.between)
at_byte lex.in_word lex.space x xs is u k h = h lex.between
at_byte lex.in_word lex.other x xs is u k h = h lex.in_word
at_byte lex.in_string lex.quote x xs is u k h = h lex.between
at_byte lex.in_string lex.backslash x xs is u k h = h lex.in_escape
at_byte lex.in_string lex.operator x xs is u k h = h lex.in_string
at_byte lex.in_string lex.space x xs is u k h = h lex.in_string
at_byte lex.in_string lex.other x xs is u k h = h lex.in_string
at_byte lex.in_escape c x xs is u k h = h lex.in_string

lexemes : (m : Mode) (xs : List ℕ) → Follows xs → AllOfText (lex.lex m xs)
unfolding lex.lex
lexemes m [] h = tt
lexemes m (x ∷ xs) h = at_byte m (class x) x xs refl h.0 (λ next. lex.lex next xs) (λ next. lexemes next xs h.1)

-- ---- tokens

abbrev AreTexts : List Token → Type 0
AreTexts [] = ⊤
AreTexts (t ∷ ts) = IsText t × AreTexts ts

allowed : (b : Bool) (t : Token) (k : Place → List Token) (next : Place) → IsText t → AreTexts (k next) → AreTexts (if_allowed b t k next)
allowed true t k next p q = (p, q)
allowed false t k next p q = (tt, tt)

at_token : (p : Place) (t : Token) (colon : Bool) (k : Place → List Token) → IsText t → ((next : Place) → AreTexts (k next)) → AreTexts (place_token p t colon k)
at_token p token.begin_object colon k is h = allowed _ _ k _ tt (h _)
at_token p token.end_object colon k is h = allowed _ _ k _ tt (h _)
at_token p token.begin_array colon k is h = allowed _ _ k _ tt (h _)
at_token p token.end_array colon k is h = allowed _ _ k _ tt (h _)
at_token p (token.key s) colon k is h = (tt, tt)
at_token p (token.string s) true k is h = allowed _ (token.key s) k _ is (h _)
at_token p (token.string s) false k is h = allowed _ (token.string s) k _ is (h _)
at_token p (token.number s) colon k is h = allowed _ (token.number s) k _ tt (h _)
at_token p (token.boolean b) colon k is h = allowed _ (token.boolean b) k _ tt (h _)
at_token p token.null colon k is h = allowed _ token.null k _ tt (h _)
at_token p token.bad colon k is h = (tt, tt)

punctuated : (p : Place) (ls : List Lexeme) → AllOfText ls → AreTexts (punctuate p ls)
unfolding punctuate
punctuated lex.fresh [] h = tt
punctuated lex.after_value [] h = tt
punctuated lex.after_comma [] h = (tt, tt)
punctuated lex.after_key [] h = (tt, tt)
punctuated lex.fresh (lex.token t ∷ ls) h = at_token lex.fresh t (begins_colon ls) (λ next. punctuate next ls) h.0 (λ next. punctuated next ls h.1)
punctuated lex.after_value (lex.token t ∷ ls) h = at_token lex.after_value t (begins_colon ls) (λ next. punctuate next ls) h.0 (λ next. punctuated next ls h.1)
punctuated lex.after_comma (lex.token t ∷ ls) h = at_token lex.after_comma t (begins_colon ls) (λ next. punctuate next ls) h.0 (λ next. punctuated next ls h.1)
punctuated lex.after_key (lex.token t ∷ ls) h = at_token lex.after_key t (begins_colon ls) (λ next. punctuate next ls) h.0 (λ next. punctuated next ls h.1)
punctuated lex.fresh (lex.comma ∷ ls) h = (tt, tt)
punctuated lex.after_value (lex.comma ∷ ls) h = punctuated lex.after_comma ls h.1
punctuated lex.after_comma (lex.comma ∷ ls) h = (tt, tt)
punctuated lex.after_key (lex.comma ∷ ls) h = (tt, tt)
punctuated lex.fresh (lex.colon ∷ ls) h = (tt, tt)
punctuated lex.after_value (lex.colon ∷ ls) h = (tt, tt)
punctuated lex.after_comma (lex.colon ∷ ls) h = (tt, tt)
punctuated lex.after_key (lex.colon ∷ ls) h = punctuated lex.fresh ls h.1

tokens_text : (text : List ℕ) → IsUtf8 text → AreTexts (tokens text)
tokens_text text u = punctuated lex.fresh (lex.lex lex.between text) (lexemes lex.between text (follows [] text u))

-- ---- the tree

abbrev mutual
  InText : Json → Type 0
  InText json.null = ⊤
  InText (json.boolean b) = ⊤
  InText (json.number s) = ⊤
  InText (json.string s) = IsUtf8 s
  InText (json.array js) = ItemsInText js
  InText (json.object ms) = MembersInText ms

  ItemsInText : json.Items → Type 0
  ItemsInText json.no_items = ⊤
  ItemsInText (json.item j js) = InText j × ItemsInText js

  MembersInText : json.Members → Type 0
  MembersInText json.no_members = ⊤
  MembersInText (json.member k j ms) = IsUtf8 k × InText j × MembersInText ms

-- what was taken off the tokens, if something was
abbrev Takes : {A : Type 0} → (A → Type 0) → Option (A × List Token) → Type 0
Takes P None = ⊤
Takes P (Some p) = P p.0 × AreTexts p.1

mapped : {A B : Type 0} (P : A → Type 0) (Q : B → Type 0) (f : A → B) (o : Option (A × List Token)) → Takes P o → ((a : A) → P a → Q (f a)) → Takes Q (parse_map f o)
mapped P Q f None h k = tt
mapped P Q f (Some p) h k = (k p.0 h.0, h.1)

chained : {A B : Type 0} (P : A → Type 0) (Q : B → Type 0) (f : A × List Token → Option (B × List Token)) (o : Option (A × List Token)) → Takes P o
    → ((a : A) (ts : List Token) → P a → AreTexts ts → Takes Q (f (a, ts))) → Takes Q (option_and_then f o)
chained P Q f None h k = tt
chained P Q f (Some p) h k = k p.0 p.1 h.0 h.1

-- the key, if there is one
abbrev IsKey : Option (List ℕ) → Type 0
IsKey None = ⊤
IsKey (Some k) = IsUtf8 k

key_read : (ts : List Token) → AreTexts ts → Takes IsKey (read_key ts)
key_read [] h = tt
key_read (token.begin_object ∷ ts) h = tt
key_read (token.end_object ∷ ts) h = (tt, h.1)
key_read (token.begin_array ∷ ts) h = tt
key_read (token.end_array ∷ ts) h = tt
key_read (token.key s ∷ ts) h = (h.0, h.1)
key_read (token.string s ∷ ts) h = tt
key_read (token.number s ∷ ts) h = tt
key_read (token.boolean b ∷ ts) h = tt
key_read (token.null ∷ ts) h = tt
key_read (token.bad ∷ ts) h = tt

abbrev Rest : Option (List Token) → Type 0
Rest None = ⊤
Rest (Some ts) = AreTexts ts

closed : (ts : List Token) → AreTexts ts → Rest (after_end_array ts)
closed [] h = tt
closed (token.begin_object ∷ ts) h = tt
closed (token.end_object ∷ ts) h = tt
closed (token.begin_array ∷ ts) h = tt
closed (token.end_array ∷ ts) h = h.1
closed (token.key s ∷ ts) h = tt
closed (token.string s ∷ ts) h = tt
closed (token.number s ∷ ts) h = tt
closed (token.boolean b ∷ ts) h = tt
closed (token.null ∷ ts) h = tt
closed (token.bad ∷ ts) h = tt

module _ (value : Parse Json) (each : (ts : List Token) → AreTexts ts → Takes InText (value ts)) where
  one_item : (more : Parse json.Items) → ((ts : List Token) → AreTexts ts → Takes ItemsInText (more ts)) → (ts : List Token) → AreTexts ts
      → (o : Option (List Token)) → Rest o → Takes ItemsInText (items_step value more ts o)
  one_item more h ts u (Some rest) r = (tt, r)
  one_item more h ts u None r =
      chained InText ItemsInText (λ p. parse_map (json.item p.0) (more p.1)) (value ts) (each ts u)
      (λ j left p q. mapped ItemsInText ItemsInText (json.item j) (more left) (h left q) (λ js all. (p, all)))

  items_read : (n : ℕ) (ts : List Token) → AreTexts ts → Takes ItemsInText (json.items value n ts)
  unfolding json.items
  items_read zero ts u = tt
  items_read (suc n) ts u = one_item (json.items value n) (items_read n) ts u (after_end_array ts) (closed ts u)

  one_member : (more : Parse json.Members) → ((ts : List Token) → AreTexts ts → Takes MembersInText (more ts))
      → (key : Option (List ℕ)) (ts : List Token) → IsKey key → AreTexts ts → Takes MembersInText (members_step value more key ts)
  one_member more h None ts k u = (tt, u)
  one_member more h (Some key) ts k u =
      chained InText MembersInText (λ p. parse_map (json.member key p.0) (more p.1)) (value ts) (each ts u)
      (λ j left p q. mapped MembersInText MembersInText (json.member key j) (more left) (h left q) (λ ms all. (k, p, all)))

  members_read : (n : ℕ) (ts : List Token) → AreTexts ts → Takes MembersInText (json.members value n ts)
  unfolding json.members
  members_read zero ts u = tt
  members_read (suc n) ts u =
      chained IsKey MembersInText (λ p. members_step value (json.members value n) p.0 p.1) (read_key ts) (key_read ts u)
      (λ key left k q. one_member (json.members value n) (members_read n) key left k q)

value_by : (a : Parse json.Items) (o : Parse json.Members) → ((ts : List Token) → AreTexts ts → Takes ItemsInText (a ts))
    → ((ts : List Token) → AreTexts ts → Takes MembersInText (o ts)) → (ts : List Token) → AreTexts ts → Takes InText (json.value_with a o ts)
value_by a o ha ho [] u = tt
value_by a o ha ho (token.begin_object ∷ ts) u = mapped MembersInText InText json.object (o ts) (ho ts u.1) (λ ms p. p)
value_by a o ha ho (token.end_object ∷ ts) u = tt
value_by a o ha ho (token.begin_array ∷ ts) u = mapped ItemsInText InText json.array (a ts) (ha ts u.1) (λ js p. p)
value_by a o ha ho (token.end_array ∷ ts) u = tt
value_by a o ha ho (token.key s ∷ ts) u = tt
value_by a o ha ho (token.string s ∷ ts) u = (u.0, u.1)
value_by a o ha ho (token.number s ∷ ts) u = (tt, u.1)
value_by a o ha ho (token.boolean b ∷ ts) u = (tt, u.1)
value_by a o ha ho (token.null ∷ ts) u = (tt, u.1)
value_by a o ha ho (token.bad ∷ ts) u = tt

value_read : (n : ℕ) (ts : List Token) → AreTexts ts → Takes InText (json.value n ts)
unfolding json.value
value_read zero ts u = value_by (λ _. None) (λ _. None) (λ _ _. tt) (λ _ _. tt) ts u
value_read (suc n) ts u =
    value_by (λ us. json.items (json.value n) (length us) us) (λ us. json.members (json.value n) (length us) us)
    (λ us v. items_read (json.value n) (value_read n) (length us) us v) (λ us v. members_read (json.value n) (value_read n) (length us) us v) ts u

-- ---- the value

abbrev IsSmall : Num → Type 0
IsSmall (unsigned n) = n < 2 ^ 64
IsSmall (negative z) = ⊤
IsSmall (float x) = ⊤

-- strings and keys are UTF-8, and whole numbers have 64 bits
abbrev mutual
  pub IsOfText : Data → Type 0
  IsOfText null = ⊤
  IsOfText (boolean b) = ⊤
  IsOfText (number n) = IsSmall n
  IsOfText (string s) = IsUtf8 s
  IsOfText (array ds) = ItemsOfText ds
  IsOfText (object ms) = MembersOfText ms

  pub ItemsOfText : Items → Type 0
  ItemsOfText no_items = ⊤
  ItemsOfText (item d ds) = IsOfText d × ItemsOfText ds

  pub MembersOfText : Members → Type 0
  MembersOfText no_members = ⊤
  MembersOfText (member k d ms) = IsUtf8 k × IsOfText d × MembersOfText ms

-- what there is has the property
abbrev pub IfThere : {A : Type 0} → (A → Type 0) → Option A → Type 0
IfThere P None = ⊤
IfThere P (Some x) = P x

pub there_map : {A B : Type 0} (P : A → Type 0) (Q : B → Type 0) (f : A → B) (o : Option A) → IfThere P o → ((a : A) → P a → Q (f a)) → IfThere Q (option_map f o)
there_map P Q f None h k = tt
there_map P Q f (Some a) h k = k a h

pub there_then : {A B : Type 0} (P : A → Type 0) (Q : B → Type 0) (f : A → Option B) (o : Option A) → IfThere P o → ((a : A) → P a → IfThere Q (f a)) → IfThere Q (option_and_then f o)
there_then P Q f None h k = tt
there_then P Q f (Some a) h k = k a h

chosen : (b : Bool) (x y : Option Num) → (b ≡ true → IfThere IsSmall x) → IfThere IsSmall y → IfThere IsSmall (if b then x else y)
chosen true x y p q = p refl
chosen false x y p q = q

float_small : (sign : Bool) (p : Parts) → IfThere IsSmall (float_of sign p)
float_small sign p = chosen (float_is_finite (nearest binary64 sign p)) (Some (float (nearest binary64 sign p))) None (λ _. tt) tt

from_small : (sign : Bool) (p : Parts) → IfThere IsSmall (number_from sign p)
from_small false p =
    chosen (is_integer p && nat_lt (digits_of p) (2 ^ 64)) (Some (unsigned (digits_of p))) (float_of false p)
    (λ e. ltb-true (digits_of p) (2 ^ 64) (and_parts (is_integer p) (nat_lt (digits_of p) (2 ^ 64)) e).1) (float_small false p)
from_small true p =
    chosen (is_integer p && nat_lt 0 (digits_of p) && nat_le (digits_of p) (2 ^ 63)) (Some (negative (with_sign true (digits_of p)))) (float_of true p)
    (λ _. tt) (float_small true p)

number_small : (s : List ℕ) → IfThere IsSmall (number_of s)
unfolding number_of
number_small s =
    chosen (slice_index s 0 == minus) (number_from true (scan (drop 1 s))) (number_from false (scan s)) (λ _. from_small true (scan (drop 1 s))) (from_small false (scan s))

by_order : (o : Ordering) (a b c : Members) → MembersOfText a → MembersOfText b → MembersOfText c → MembersOfText (match_ordering o a b c)
by_order Less a b c p q r = p
by_order Equal a b c p q r = q
by_order Greater a b c p q r = r

put_of_text : (k : List ℕ) (d : Data) (ms : Members) → IsUtf8 k → IsOfText d → MembersOfText ms → MembersOfText (put k d ms)
put_of_text k d no_members p q h = (p, q, tt)
put_of_text k d (member l e ms) p q h =
    by_order (slice_cmp nat_cmp k l) (member k d (member l e ms)) (member l d ms) (member l e (put k d ms))
    (p, q, h) (h.0, q, h.2) (h.0, h.1, put_of_text k d ms p q h.2)

mutual
  made : (j : Json) → InText j → IfThere IsOfText (of_json j)
  made json.null h = tt
  made (json.boolean b) h = tt
  made (json.number s) h = there_map IsSmall IsOfText number (number_of s) (number_small s) (λ n p. p)
  made (json.string s) h = h
  made (json.array js) h = there_map ItemsOfText IsOfText array (of_items js) (items_made js h) (λ ds p. p)
  made (json.object ms) h = there_map MembersOfText IsOfText object (of_members ms no_members) (members_made ms no_members h tt) (λ es p. p)

  items_made : (js : json.Items) → ItemsInText js → IfThere ItemsOfText (of_items js)
  items_made json.no_items h = tt
  items_made (json.item j js) h =
      there_then IsOfText ItemsOfText (λ d. option_map (item d) (of_items js)) (of_json j) (made j h.0)
      (λ d p. there_map ItemsOfText ItemsOfText (item d) (of_items js) (items_made js h.1) (λ ds q. (p, q)))

  members_made : (ms : json.Members) (found : Members) → MembersInText ms → MembersOfText found → IfThere MembersOfText (of_members ms found)
  members_made json.no_members found h f = f
  members_made (json.member k j ms) found h f =
      there_then IsOfText MembersOfText (λ d. of_members ms (put k d found)) (of_json j) (made j h.1)
      (λ d p. members_made ms (put k d found) h.2 (put_of_text k d found h.0 p f))

last_of_text : (j : Json) (ts : List Token) → InText j → IfThere InText (if_last j ts)
last_of_text j [] h = h
last_of_text j (t ∷ ts) h = tt

whole_of_text : (o : Option (Json × List Token)) → Takes InText o → IfThere IsOfText (option_and_then of_json (option_and_then (λ p. if_last p.0 p.1) o))
whole_of_text None h = tt
whole_of_text (Some p) h = there_then InText IsOfText of_json (if_last p.0 p.1) (last_of_text p.0 p.1 h.0) made

pub read_of_text : (text : List ℕ) → IsUtf8 text → IfThere IsOfText (read text)
read_of_text text u = whole_of_text (json.value max_depth (tokens text)) (value_read max_depth (tokens text) (tokens_text text u))

given : {A : Type 0} (P : A → Type 0) (o : Option A) (x : A) → o ≡ Some x → IfThere P o → P x
given P None x e h = absurd cc
given P (Some y) x e h = let same : y ≡ x = cc in subst P same h

pub strings_read : (text : List ℕ) (d : Data) → IsUtf8 text → read text ≡ Some d → IsOfText d
strings_read text d u e = given IsOfText (read text) d e (read_of_text text u)
