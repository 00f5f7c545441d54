-- The tokens that are written for an object, member by member, and for an array, item by item.
use Rattle.std.proofs.Common.{◌≡◌, ℕ, ◌+◌, ◌<◌, List, [], ◌∷◌, ◌++◌, Option, Some, None, drop, length, get_or, map, refl, sym, ◌∙◌, ap, append_assoc, append-nil, subst}
use Rattle.std.specs.Cmp.Lexicographic.{slice_cmp}
use Rattle.std.specs.Ordering.{nat_cmp, match_ordering}
use Rattle.std.specs.declared.cmp.Ordering.{Ordering}
use Rattle.std.specs.declared.cmp.Ordering.TheVariants.{Greater, Less}
use Rattle.std.proofs.lemmas.List.{drop_more}
use Rattle.json.specs.Token.{Token, begin_object, end_object, key}
use Rattle.json.specs.Tree.{members_tokens}
use Rattle.serde_json.specs.Data.{Data, object, Members, no_members, member, put}
use Rattle.serde_json.specs.Written.{members_outline}
use Rattle.serde_json.specs.View.{items_of}
use Rattle.query_forms.specs.Forms.{each_item, with_member}
use Rattle.query_forms.specs.Tokens.{tokens_of, tokens_of_items, tokens_of_member}

-- ---- members that are put in by ascending names

-- the tokens of members, without the closing brace
abbrev opened : Members → List Token
opened no_members = []
opened (member k d ms) = key k ∷ (tokens_of d ++ opened ms)

closing : (ms : Members) → members_tokens (members_outline ms) ≡ opened ms ++ end_object ∷ []
closing no_members = refl
closing (member k d ms) =
    ap (λ ts. key k ∷ (tokens_of d ++ ts)) (closing ms) ∙ ap (λ ts. key k ∷ ts) (sym (append_assoc (tokens_of d) (opened ms) (end_object ∷ [])))

-- the name comes after all names of the members
abbrev IsLast : List ℕ → Members → Type 0
IsLast k no_members = Unit {0}
IsLast k (member l d ms) = (slice_cmp nat_cmp k l ≡ Greater) × IsLast k ms

put_last : (k : List ℕ) (d : Data) (ms : Members) → IsLast k ms → opened (put k d ms) ≡ opened ms ++ key k ∷ tokens_of d
put_last k d no_members last = ap (λ ts. key k ∷ ts) (append-nil (tokens_of d))
put_last k d (member l e ms) last =
    ap (λ (o : Ordering). opened (match_ordering o (member k d (member l e ms)) (member l d ms) (member l e (put k d ms)))) last.0
    ∙ ap (λ ts. key l ∷ (tokens_of e ++ ts)) (put_last k d ms last.1)
    ∙ ap (λ ts. key l ∷ ts) (sym (append_assoc (tokens_of e) (opened ms) (key k ∷ tokens_of d)))

with_last : (k : List ℕ) (x : Option Data) (ms : Members) → IsLast k ms → opened (with_member k x ms) ≡ opened ms ++ tokens_of_member k x
with_last k None ms last = sym (append-nil (opened ms))
with_last k (Some d) ms last = put_last k d ms last

last_put : (k l : List ℕ) (d : Data) (ms : Members) → slice_cmp nat_cmp k l ≡ Greater → IsLast k ms → IsLast l ms → IsLast k (put l d ms)
last_put k l d no_members after last before = (after, last)
last_put k l d (member j e ms) after last before =
    subst (λ (o : Ordering). IsLast k (match_ordering o (member l d (member j e ms)) (member j d ms) (member j e (put l d ms)))) (sym before.0)
    (last.0, last_put k l d ms after last.1 before.1)

after_with : (k l : List ℕ) (x : Option Data) (ms : Members) → slice_cmp nat_cmp k l ≡ Greater → IsLast k ms → IsLast l ms → IsLast k (with_member l x ms)
after_with k l None ms after last before = last
after_with k l (Some d) ms after last before = last_put k l d ms after last before

-- ---- what is written of an object so far

abbrev IsBegun : List Token → Members → List Token → Type 0
IsBegun old ms new = new ≡ old ++ begin_object ∷ opened ms

one_more : (old new newer : List Token) (k : List ℕ) (x : Option Data) (ms : Members) → IsBegun old ms new → newer ≡ new ++ tokens_of_member k x → IsLast k ms → IsBegun old (with_member k x ms) newer
one_more old new newer k x ms begun more last =
    more
    ∙ ap (λ ts. ts ++ tokens_of_member k x) begun
    ∙ append_assoc old (begin_object ∷ opened ms) (tokens_of_member k x)
    ∙ ap (λ ts. old ++ begin_object ∷ ts) (sym (with_last k x ms last))

whole : (old new newer : List Token) (ms : Members) → IsBegun old ms new → newer ≡ new ++ end_object ∷ [] → newer ≡ old ++ tokens_of (object ms)
whole old new newer ms begun more =
    more
    ∙ ap (λ ts. ts ++ end_object ∷ []) begun
    ∙ append_assoc old (begin_object ∷ opened ms) (end_object ∷ [])
    ∙ ap (λ ts. old ++ begin_object ∷ ts) (sym (closing ms))

module _ (old n0 : List Token) (k1 k2 : List ℕ) (x1 x2 : Option Data) (n1 n2 : List Token) (e0 : n0 ≡ old ++ begin_object ∷ []) (e1 : n1 ≡ n0 ++ tokens_of_member k1 x1) (e2 : n2 ≡ n1 ++ tokens_of_member k2 x2) (l21 : slice_cmp nat_cmp k2 k1 ≡ Greater) where
  abbrev one : Members
  one = with_member k1 x1 no_members

  abbrev two : Members
  two = with_member k2 x2 one

  after_one : (k : List ℕ) → slice_cmp nat_cmp k k1 ≡ Greater → IsLast k one
  after_one k l = after_with k k1 x1 no_members l tt tt

  after_two : (k : List ℕ) → slice_cmp nat_cmp k k1 ≡ Greater → slice_cmp nat_cmp k k2 ≡ Greater → IsLast k two
  after_two k l m = after_with k k2 x2 one m (after_one k l) (after_one k2 l21)

  begun_two : IsBegun old two n2
  begun_two = one_more old n1 n2 k2 x2 one (one_more old n0 n1 k1 x1 no_members e0 e1 tt) e2 (after_one k2 l21)

  pub two_members : (new : List Token) → new ≡ n2 ++ end_object ∷ [] → new ≡ old ++ tokens_of (object (with_member k2 x2 (with_member k1 x1 no_members)))
  two_members new e = whole old n2 new two begun_two e

  module _ (k3 : List ℕ) (x3 : Option Data) (n3 : List Token) (e3 : n3 ≡ n2 ++ tokens_of_member k3 x3) (l31 : slice_cmp nat_cmp k3 k1 ≡ Greater) (l32 : slice_cmp nat_cmp k3 k2 ≡ Greater) where
    abbrev three : Members
    three = with_member k3 x3 two

    after_three : (k : List ℕ) → slice_cmp nat_cmp k k1 ≡ Greater → slice_cmp nat_cmp k k2 ≡ Greater → slice_cmp nat_cmp k k3 ≡ Greater → IsLast k three
    after_three k l m n = after_with k k3 x3 two n (after_two k l m) (after_two k3 l31 l32)

    begun_three : IsBegun old three n3
    begun_three = one_more old n2 n3 k3 x3 two begun_two e3 (after_two k3 l31 l32)

    pub three_members : (new : List Token) → new ≡ n3 ++ end_object ∷ [] → new ≡ old ++ tokens_of (object (with_member k3 x3 (with_member k2 x2 (with_member k1 x1 no_members))))
    three_members new e = whole old n3 new three begun_three e

    module _ (k4 : List ℕ) (x4 : Option Data) (n4 : List Token) (e4 : n4 ≡ n3 ++ tokens_of_member k4 x4) (l41 : slice_cmp nat_cmp k4 k1 ≡ Greater) (l42 : slice_cmp nat_cmp k4 k2 ≡ Greater) (l43 : slice_cmp nat_cmp k4 k3 ≡ Greater) (k5 : List ℕ) (x5 : Option Data) (n5 : List Token) (e5 : n5 ≡ n4 ++ tokens_of_member k5 x5) (l51 : slice_cmp nat_cmp k5 k1 ≡ Greater) (l52 : slice_cmp nat_cmp k5 k2 ≡ Greater) (l53 : slice_cmp nat_cmp k5 k3 ≡ Greater) (l54 : slice_cmp nat_cmp k5 k4 ≡ Greater) where
      abbrev four : Members
      four = with_member k4 x4 three

      begun_four : IsBegun old four n4
      begun_four = one_more old n3 n4 k4 x4 three begun_three e4 (after_three k4 l41 l42 l43)

      pub five_members : (new : List Token) → new ≡ n5 ++ end_object ∷ [] → new ≡ old ++ tokens_of (object (with_member k5 x5 (with_member k4 x4 (with_member k3 x3 (with_member k2 x2 (with_member k1 x1 no_members))))))
      five_members new e =
          whole old n5 new (with_member k5 x5 four) (one_more old n4 n5 k5 x5 four begun_four e5 (after_with k5 k4 x4 three l54 (after_three k5 l51 l52 l53) (after_three k4 l41 l42 l43))) e

-- two members may be put in in either order
pub swapped : (k l : List ℕ) (x y : Option Data) → slice_cmp nat_cmp k l ≡ Less → slice_cmp nat_cmp l k ≡ Greater → with_member k x (with_member l y no_members) ≡ with_member l y (with_member k x no_members)
swapped k l None y before after = refl
swapped k l (Some d) None before after = refl
swapped k l (Some d) (Some e) before after =
    ap (λ (o : Ordering). match_ordering o (member k d (member l e no_members)) (member l d no_members) (member l e (member k d no_members))) before
    ∙ sym (ap (λ (o : Ordering). match_ordering o (member l e (member k d no_members)) (member k e no_members) (member k d (member l e no_members))) after)

-- ---- items

-- what is written and what is still to be written
pub item_written : {X : Type 0} (f : Data → Data) (as_data : X → Data) (xs : List X) (i : ℕ) (x : X) (out new all : List Token) → i < length xs → x ≡ get_or xs i x → new ≡ out ++ tokens_of (f (as_data x))
    → out ++ tokens_of_items (each_item f (items_of (map as_data (drop i xs)))) ≡ all → new ++ tokens_of_items (each_item f (items_of (map as_data (drop (i + 1) xs)))) ≡ all
item_written f as_data xs i x out new all lt is more so_far =
    ap (λ ts. ts ++ rest) more
    ∙ append_assoc out (tokens_of (f (as_data x))) rest
    ∙ ap (λ ys. out ++ tokens_of_items (each_item f (items_of (map as_data ys)))) (sym here)
    ∙ so_far
  where
    rest : List Token
    rest = tokens_of_items (each_item f (items_of (map as_data (drop (i + 1) xs))))

    here : drop i xs ≡ x ∷ drop (i + 1) xs
    here = drop_more xs i x lt ∙ ap (λ y. y ∷ drop (i + 1) xs) (sym is)
