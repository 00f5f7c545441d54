-- The members of an object that is written anew, by name.
use Rattle.std.proofs.Common.{◌≡◌, List, ℕ, [], ◌∷◌, Bool, true, false, cond, Option, Some, None, bytes_eq, true≢false, refl, sym, ap, ◌∙◌}
use Rattle.std.proofs.lemmas.Slice.Eq.{bytes_eq-Decides}
use Rattle.serde_json.specs.Data.{Data, Members, no_members, put}
use Rattle.serde_json.specs.Find.{get_member}
use Rattle.serde_json.proofs.Views.{get_member-put, get_member-put_other}
use Rattle.query_forms.specs.Forms.{with_member}

abbrev pub Field : Type 0
Field = List ℕ × Option Data

-- the fields that are there
abbrev pub members_with : List Field → Members
members_with [] = no_members
members_with (f ∷ fs) = with_member f.0 f.1 (members_with fs)

abbrev pub first_of : Option Data → Option Data → Option Data
first_of None later = later
first_of (Some d) later = Some d

-- the first field of a name that is there
abbrev pub field_of : List ℕ → List Field → Option Data
field_of k [] = None
field_of k (f ∷ fs) = cond (bytes_eq k f.0) (first_of f.1 (field_of k fs)) (field_of k fs)

pub first_alone : (o : Option Data) → first_of o None ≡ o
first_alone None = refl
first_alone (Some d) = refl

one_field : (k l : List ℕ) (o later : Option Data) (ms : Members) (b : Bool) → bytes_eq k l ≡ b → get_member k ms ≡ later
    → get_member k (with_member l o ms) ≡ cond b (first_of o later) later
one_field k l None later ms true is e = e
one_field k l None later ms false is e = e
one_field k l (Some d) later ms true is e =
    let same : k ≡ l = (bytes_eq-Decides k l).0 is in
    ap (λ q. get_member q (put l d ms)) same ∙ get_member-put l d ms
one_field k l (Some d) later ms false is e = get_member-put_other k l d ms (λ same. absurd (true≢false (sym ((bytes_eq-Decides k l).1 same) ∙ is))) ∙ e

pub field_found : (k : List ℕ) (fs : List Field) → get_member k (members_with fs) ≡ field_of k fs
field_found k [] = refl
field_found k (f ∷ fs) = one_field k f.0 f.1 (field_of k fs) (members_with fs) _ refl (field_found k fs)
