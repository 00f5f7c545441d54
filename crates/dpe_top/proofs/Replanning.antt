-- Changes of a query, one after the other, and what is said of them.
use Rattle.std.proofs.Common.{◌≡◌, ◌∙◌, ℕ, ◌+◌, ◌*◌, ◌^◌, ◌<◌, ◌≤◌, refl, sym, ap, subst, arith, List, [], ◌∷◌, ◌++◌, append_assoc, length, get_or, take, drop, Some, None}
use Rattle.std.specs.Prelude.{slice_get}
use Rattle.std.specs.List.{All, sum_by}
use Rattle.std.proofs.lemmas.List.{append-nil, drop_all, drop_more, get_or_default, take_all, take_more}
use Rattle.std.proofs.lemmas.List.Elements.{All-get_or}
use Rattle.std.proofs.lemmas.List.Sums.{sum_by_push}
use Rattle.std.proofs.lemmas.Option.{get_or_from_slice_get, slice_get_within}
use Rattle.dpe_base.specs.declared.TheConstants.{COST_LIMIT, INPUT_CAP}
use Rattle.dpe_base.specs.Queries.{IsQuery, JoinQuery, relations, with_rows}
use Rattle.dpe_base.specs.Sets.{full}
use Rattle.join_tree.specs.Trees.{JoinTree, Plan, cost}
use Rattle.join_graph.specs.Graphs.{JoinGraph, graph_of}
use Rattle.pair_stream.specs.Orders.{Complete}
use Rattle.enum_dpccp.specs.Dpccp.{seq_dpccp}
use Rattle.query_json.specs.declared.entry.Entry.{Entry}
use Rattle.query_json.specs.declared.entry.Named.{Named}
use Rattle.query_json.specs.declared.entry.Part.{Part}
use Rattle.query_json.specs.declared.entry.Part.TheVariants.{Accepted}
use Rattle.query_forms.specs.declared.changes.Change.{Change}
use Rattle.query_forms.specs.Changes.{AreRelationsOf, IsWithin}
use Rattle.enum_dpccp.specs.Touching.{touching}
use Rattle.reopt.specs.Keeping.{touched_pairs}
use Rattle.reopt.proofs.OtherSets.{same_graph}
use Rattle.plan_report.specs.declared.report.Format.TheVariants.{Text}
use Rattle.plan_report.specs.declared.report.Report.{Report}
use Rattle.plan_report.specs.Entries.{PlannedQuery, planned}
use Rattle.plan_report.specs.Reports.{Appends, format_of, text_in}
use Rattle.plan_report.specs.Texts.{planned_text}
use Rattle.dpe_words.specs.declared.choices.Settings.{Settings}
use Rattle.dpe_top.specs.Modes.Report.{model_number}
use Rattle.dpe_top.proofs.Plans.{plan_below}
use Rattle.dpe_top.specs.Modes.Replan.{AreAgain, AreListed, CanBeMade, IsChangesText, IsEntryText, IsPlannedInText, IsTextFrom, change_line, named_as, uses_at, with_rows_of_all}

-- ---- the query

pub graph_stays : (q : JoinQuery) (rows : ℕ) (rs : List ℕ) → graph_of (with_rows_of_all q rows rs) ≡ graph_of q
graph_stays q rows [] = refl
graph_stays q rows (r ∷ rs) = graph_stays (with_rows q r rows) rows rs ∙ same_graph q r rows

pub one_more : (q : JoinQuery) (rows : ℕ) (rs : List ℕ) (r : ℕ) → with_rows_of_all q rows (rs ++ (r ∷ [])) ≡ with_rows (with_rows_of_all q rows rs) r rows
one_more q rows [] r = refl
one_more q rows (x ∷ rs) r = one_more (with_rows q x rows) rows rs r

-- as many pairs are touched whatever the rows are
pub touched_same : (q p : JoinQuery) (r : ℕ) → graph_of p ≡ graph_of q → length (touched_pairs p r) ≡ length (touched_pairs q r)
touched_same q p r same = ap (λ (g : JoinGraph). length (touching r (seq_dpccp g))) same

pub listed_same : (q p : JoinQuery) (n : ℕ) → graph_of p ≡ graph_of q → AreListed q n → AreListed p n
listed_same q p n same has =
    let F : JoinGraph → Type 0 = λ g. Complete g (seq_dpccp g) in
    record { listed = subst F (sym same) has.listed; count = has.count ∙ ap (λ (g : JoinGraph). length (seq_dpccp g)) (sym same) }

-- ---- the relations on one table

-- the first i of the relations have the new rows, and so many pairs were processed again
pub record HasMade (q p : JoinQuery) (rows : ℕ) (rs : List ℕ) (i n : ℕ) : Type 0 where
  pub query : p ≡ with_rows_of_all q rows (take i rs)
  pub again : n ≡ sum_by (λ r. length (touched_pairs q r)) (take i rs)
  pub small : n ≤ 2 ^ 64 * i

pub none_made : (q : JoinQuery) (rows : ℕ) (rs : List ℕ) → HasMade q q rows rs 0 0
none_made q rows rs = record { query = refl; again = refl; small = omega arith }

pub made_more : (q p after : JoinQuery) (rows : ℕ) (rs : List ℕ) (i n r k : ℕ) → HasMade q p rows rs i n → i < length rs → r ≡ get_or rs i r
    → after ≡ with_rows p r rows → k ≡ length (touched_pairs after r) → k < 2 ^ 64 → HasMade q after rows rs (i + 1) (n + k)
made_more q p after rows rs i n r k has lt is made count fits =
    let next : take (i + 1) rs ≡ take i rs ++ (r ∷ []) = take_more rs i r lt ∙ ap (λ x. take i rs ++ (x ∷ [])) (sym is) in
    let query : after ≡ with_rows_of_all q rows (take i rs ++ (r ∷ [])) = made ∙ ap (λ (x : JoinQuery). with_rows x r rows) has.query ∙ sym (one_more q rows (take i rs) r) in
    let graph : graph_of after ≡ graph_of q = ap (λ (x : JoinQuery). graph_of x) query ∙ graph_stays q rows (take i rs ++ (r ∷ [])) in
    let sum : n + k ≡ sum_by (λ x. length (touched_pairs q x)) (take i rs ++ (r ∷ [])) =
    rw (sum_by_push (λ x. length (touched_pairs q x)) (take i rs) r, has.again, count, touched_same q after r graph) refl in
    record {
      query = query ∙ ap (λ xs. with_rows_of_all q rows xs) (sym next);
      again = sum ∙ ap (λ xs. sum_by (λ x. length (touched_pairs q x)) xs) (sym next);
      small = let small = has.small in omega (arith, small, fits);
    }

-- the same with the relation at place i, whatever stands behind the end
pub made_at : (q p after : JoinQuery) (rows : ℕ) (rs : List ℕ) (i n d k : ℕ) → HasMade q p rows rs i n → i < length rs
    → after ≡ with_rows p (get_or rs i d) rows → k ≡ length (touched_pairs after (get_or rs i d)) → k < 2 ^ 64 → HasMade q after rows rs (i + 1) (n + k)
made_at q p after rows rs i n d k has lt made count fits =
    made_more q p after rows rs i n (get_or rs i d) k has lt (get_or_default rs i d (get_or rs i d) lt) made count fits

-- all of them
pub all_made : (q p : JoinQuery) (rows : ℕ) (rs : List ℕ) (i n : ℕ) → HasMade q p rows rs i n → length rs ≤ i
    → (p ≡ with_rows_of_all q rows rs) × (n ≡ sum_by (λ r. length (touched_pairs q r)) rs)
all_made q p rows rs i n has end =
    let whole : take i rs ≡ rs = take_all i rs end in
    (has.query ∙ ap (λ xs. with_rows_of_all q rows xs) whole, has.again ∙ ap (λ xs. sum_by (λ r. length (touched_pairs q r)) xs) whole)

-- ---- what can be made

relations_stay : (q : JoinQuery) (rows : ℕ) (rs : List ℕ) → relations (with_rows_of_all q rows rs) ≡ relations q
relations_stay q rows rs = ap (λ (g : JoinGraph). g.n) (graph_stays q rows rs)

-- the next relation is one of the query with the rows so far
pub relation_at : (q p : JoinQuery) (rows : ℕ) (rs : List ℕ) (i n d : ℕ) → HasMade q p rows rs i n → All (λ r. r < relations q) rs → i < length rs → get_or rs i d < relations p
relation_at q p rows rs i n d has all lt =
    let same : relations p ≡ relations q = ap (λ (x : JoinQuery). relations x) has.query ∙ relations_stay q rows (take i rs) in
    subst (λ (k : ℕ). get_or rs i d < k) (sym same) (All-get_or (λ r. r < relations q) rs i d lt all)

-- the next change can be made of the query with the rows so far
pub next_can : (q p : JoinQuery) (place : ℕ) (changes : List Change) (j : ℕ) (c : Change) → graph_of p ≡ graph_of q → All (CanBeMade q place) changes → j < length changes
    → c ≡ get_or changes j c → CanBeMade p place c
next_can q p place changes j c same all lt is =
    let here : CanBeMade q place c = subst (CanBeMade q place) (sym is) (All-get_or (CanBeMade q place) changes j c lt all) in
    record { rows = here.rows; uses = subst (λ (n : ℕ). All (λ r. r < n) (uses_at place c)) (sym (ap (λ (g : JoinGraph). g.n) same)) here.uses }

pub all_can : (part : Part) (named : Named) (place : ℕ) (changes : List Change) → part ≡ Accepted named
    → All (λ c. (c.rows ≤ INPUT_CAP) × AreRelationsOf part (uses_at place c)) changes → All (CanBeMade named.query place) changes
all_can part named place changes is h k d lt =
    let x = h k d lt in
    record { rows = x.0; uses = subst (λ (p : Part). AreRelationsOf p (uses_at place (get_or changes k d))) is x.1 }

-- of the entry at a place of the file
pub all_of_entry : (entries : List Entry) (i : ℕ) (e : Entry) (changes : List Change) → All (IsWithin entries) changes → slice_get entries i ≡ Some e
    → All (λ c. (c.rows ≤ INPUT_CAP) × AreRelationsOf e.part (uses_at i c)) changes
all_of_entry entries i e changes h is k d lt = let w = h k d lt in (w.rows, w.uses i e is)

-- ---- after a change

module _ (q p : JoinQuery) (rows : ℕ) (used rs : List ℕ) (same : used ≡ rs) (made : p ≡ with_rows_of_all q rows used) where
  pub made_so : p ≡ with_rows_of_all q rows rs
  made_so = made ∙ ap (λ xs. with_rows_of_all q rows xs) same

  graph_after : graph_of p ≡ graph_of q
  graph_after = ap (λ (x : JoinQuery). graph_of x) made ∙ graph_stays q rows used

  pub size_after : (n : ℕ) → n ≡ relations q → n ≡ relations p
  size_after n size = size ∙ ap (λ (g : JoinGraph). g.n) (sym graph_after)

  pub listed_after : (n : ℕ) → AreListed q n → AreListed p n
  listed_after n has = listed_same q p n graph_after has

pub again_so : (q : JoinQuery) (used rs : List ℕ) (pairs n : ℕ) → used ≡ rs → AreListed q pairs → n ≡ sum_by (λ r. length (touched_pairs q r)) used → AreAgain q rs n
again_so q used rs pairs n same has is = (seq_dpccp (graph_of q), has.listed, is ∙ ap (λ xs. sum_by (λ r. length (touched_pairs q r)) xs) same)

-- ---- what is said of a query

pub said_now : (s : Settings) (name : List ℕ) (aliases : List (List ℕ)) (kind : ℕ) (q : JoinQuery) (t : JoinTree) (n : ℕ) → model_number s.model ≡ kind
    → Plan kind q (full (relations q)) t → AreListed q n
    → IsPlannedInText s name (named_as q aliases) (record { name = name; aliases = aliases; kind = kind; query = q; tree = t; pairs = n; stats = None })
said_now s name aliases kind q t n model plan has =
    let F : ℕ → Type 0 = λ k. Plan k q (full (relations q)) t → IsPlannedInText s name (named_as q aliases) (record { name = name; aliases = aliases; kind = k; query = q; tree = t; pairs = n; stats = None }) in
    let f : F (model_number s.model) = λ p. record { plan = p; pairs = (seq_dpccp (graph_of q), has.listed, has.count); stats = refl; rest = refl } in
    subst F model f plan

pub below_now : (kind : ℕ) (q p : JoinQuery) (t : JoinTree) → p ≡ q → IsQuery p → Plan kind q (full (relations q)) t → cost kind p t < COST_LIMIT
below_now kind q p t same ok plan =
    let F : JoinQuery → Type 0 = λ x. Plan kind x (full (relations x)) t in
    plan_below None kind p (full (relations p)) t ok (subst F (sym same) plan)

-- the entry as a report has it
pub entry_now : (s : Settings) (name : List ℕ) (aliases : List (List ℕ)) (kind : ℕ) (q p : JoinQuery) (t : JoinTree) (n : ℕ) → p ≡ q → model_number s.model ≡ kind
    → Plan kind q (full (relations q)) t → AreListed q n → (old new : Report) (text : List ℕ) → format_of old ≡ Text → text_in old ≡ []
    → Appends old new (planned (record { name = name; aliases = aliases; kind = kind; query = p; tree = t; pairs = n; stats = None })) → text ≡ text_in new
    → (said : PlannedQuery) × IsPlannedInText s name (named_as q aliases) said × (text ≡ planned_text said)
entry_now s name aliases kind q p t n same model plan has old new text format empty grown is =
    let said : JoinQuery → PlannedQuery = λ x. record { name = name; aliases = aliases; kind = kind; query = x; tree = t; pairs = n; stats = None } in (
      said q,
      said_now s name aliases kind q t n model plan has,
      is ∙ grown.in_text format ∙ ap (λ xs. xs ++ planned_text (said p)) empty ∙ ap (λ x. planned_text (said x)) same,
    )

-- ---- the changes of one query

-- what holds of a query with other rows
module _ (q p : JoinQuery) (same : graph_of p ≡ graph_of q) where
  pub size_by : (n : ℕ) → n ≡ relations q → n ≡ relations p
  size_by n size = size ∙ ap (λ (g : JoinGraph). g.n) (sym same)

  pub listed_by : (n m : ℕ) → m ≡ n → AreListed q n → AreListed p m
  listed_by n m is has = subst (λ (k : ℕ). AreListed p k) (sym is) (listed_same q p n same has)

-- the line and the entry of one change
pub change_text : (old mid new line entry text : List ℕ) → mid ≡ old ++ line → new ≡ mid ++ entry → entry ≡ text → new ≡ old ++ (line ++ text)
change_text old mid new line entry text first then is =
    then ∙ ap (λ xs. xs ++ entry) first ∙ append_assoc old line entry ∙ ap (λ xs. old ++ (line ++ xs)) is

-- the text so far, which that of the changes from the j-th on completes
pub record HasAppended (s : Settings) (name : List ℕ) (aliases : List (List ℕ)) (place : ℕ) (q p : JoinQuery) (changes : List Change) (j : ℕ) (before out : List ℕ) : Type 0 where
  pub graph : graph_of p ≡ graph_of q
  pub text : List ℕ
  pub grown : out ≡ before ++ text
  pub rest : (later : List ℕ) → IsChangesText s name place (named_as p aliases) j (drop j changes) later → IsChangesText s name place (named_as q aliases) 0 changes (text ++ later)

pub none_appended : (s : Settings) (name : List ℕ) (aliases : List (List ℕ)) (place : ℕ) (q : JoinQuery) (changes : List Change) (before : List ℕ)
    → HasAppended s name aliases place q q changes 0 before before
none_appended s name aliases place q changes before = record { graph = refl; text = []; grown = sym (append-nil before); rest = λ later h. h }

-- one change more
pub change_more : (s : Settings) (name : List ℕ) (aliases : List (List ℕ)) (place : ℕ) (q p after : JoinQuery) (changes : List Change) (j : ℕ) (c : Change) (before old new : List ℕ) (again : ℕ) (said : PlannedQuery)
    → HasAppended s name aliases place q p changes j before old → j < length changes → c ≡ get_or changes j c → after ≡ with_rows_of_all p c.rows (uses_at place c)
    → AreAgain p (uses_at place c) again → IsPlannedInText s name (named_as after aliases) said → new ≡ old ++ (change_line j again ++ planned_text said)
    → HasAppended s name aliases place q after changes (j + 1) before new
change_more s name aliases place q p after changes j c before old new again said has lt is made are plan grown =
    let line = change_line j again in
    let entry = planned_text said in
    let F : JoinQuery → Type 0 = λ x. IsPlannedInText s name (named_as x aliases) said in
    let at : drop j changes ≡ c ∷ drop (j + 1) changes = drop_more changes j c lt ∙ ap (λ x. x ∷ drop (j + 1) changes) (sym is) in
    record {
      graph = ap (λ (x : JoinQuery). graph_of x) made ∙ graph_stays p c.rows (uses_at place c) ∙ has.graph;
      text = has.text ++ (line ++ entry);
      grown = grown ∙ ap (λ xs. xs ++ (line ++ entry)) has.grown ∙ append_assoc before has.text (line ++ entry);
      rest = λ later h.
          let G : JoinQuery → Type 0 = λ x. IsChangesText s name place (named_as x aliases) (j + 1) (drop (j + 1) changes) later in
          let H : List Change → Type 0 = λ cs. IsChangesText s name place (named_as p aliases) j cs (line ++ (entry ++ later)) in
          let here : H (c ∷ drop (j + 1) changes) = (again, are, (said, subst F made plan, (later, subst G made h, refl))) in
          subst (λ (t : List ℕ). IsChangesText s name place (named_as q aliases) 0 changes t)
          (ap (λ xs. has.text ++ xs) (sym (append_assoc line entry later)) ∙ sym (append_assoc has.text (line ++ entry) later))
          (has.rest (line ++ (entry ++ later)) (subst H (sym at) here));
    }

-- all changes
pub all_appended : (s : Settings) (name : List ℕ) (aliases : List (List ℕ)) (place : ℕ) (q p : JoinQuery) (changes : List Change) (j : ℕ) (before out : List ℕ)
    → HasAppended s name aliases place q p changes j before out → length changes ≤ j
    → (text : List ℕ) × IsChangesText s name place (named_as q aliases) 0 changes text × (out ≡ before ++ text)
all_appended s name aliases place q p changes j before out has end =
    let H : List Change → Type 0 = λ cs. IsChangesText s name place (named_as p aliases) j cs [] in
    let last : H (drop j changes) = subst H (sym (drop_all j changes end)) refl in
    (has.text, subst (λ (t : List ℕ). IsChangesText s name place (named_as q aliases) 0 changes t) (append-nil has.text) (has.rest [] last), has.grown)

-- ---- the entries of the file

-- the text so far, which that of the entries from place i on completes
abbrev pub HasListed : Settings → List Change → List Entry → ℕ → List ℕ → Type 0
HasListed s changes entries i out = (later : List ℕ) → IsTextFrom s changes i (drop i entries) later → IsTextFrom s changes 0 entries (out ++ later)

pub entry_more : (s : Settings) (changes : List Change) (entries : List Entry) (i : ℕ) (e : Entry) (old new text : List ℕ) → HasListed s changes entries i old
    → slice_get entries i ≡ Some e → IsEntryText s changes i e.name e.part text → new ≡ old ++ text → HasListed s changes entries (i + 1) new
entry_more s changes entries i e old new text has at is grown later h =
    let here : drop i entries ≡ e ∷ drop (i + 1) entries =
    drop_more entries i e (slice_get_within entries i e at) ∙ ap (λ x. x ∷ drop (i + 1) entries) (get_or_from_slice_get entries i e e at) in
    let H : List Entry → Type 0 = λ es. IsTextFrom s changes i es (text ++ later) in
    subst (λ (t : List ℕ). IsTextFrom s changes 0 entries t) (sym (append_assoc old text later) ∙ ap (λ xs. xs ++ later) (sym grown))
    (has (text ++ later) (subst H (sym here) (text, is, (later, h, refl))))

pub all_listed : (s : Settings) (changes : List Change) (entries : List Entry) (i : ℕ) (out : List ℕ) → HasListed s changes entries i out → length entries ≤ i
    → IsTextFrom s changes 0 entries out
all_listed s changes entries i out has end =
    let H : List Entry → Type 0 = λ es. IsTextFrom s changes i es [] in
    subst (λ (t : List ℕ). IsTextFrom s changes 0 entries t) (append-nil out) (has [] (subst H (sym (drop_all i entries end)) refl))

-- ---- an accepted query

pub query_text : (s : Settings) (changes : List Change) (place : ℕ) (name : List ℕ) (q p : JoinQuery) (aliases : List (List ℕ)) (before mid out entry : List ℕ) → p ≡ q
    → ((said : PlannedQuery) × IsPlannedInText s name (named_as p aliases) said × (entry ≡ planned_text said)) → mid ≡ before ++ entry
    → ((rest : List ℕ) × IsChangesText s name place (named_as p aliases) 0 changes rest × (out ≡ mid ++ rest))
    → (text : List ℕ) × IsEntryText s changes place name (Accepted (named_as q aliases)) text × (out ≡ before ++ text)
query_text s changes place name q p aliases before mid out entry same first then later =
    let F : JoinQuery → Type 0 = λ x. IsPlannedInText s name (named_as x aliases) first.0 in
    let G : JoinQuery → Type 0 = λ x. IsChangesText s name place (named_as x aliases) 0 changes later.0 in (
      planned_text first.0 ++ later.0,
      (first.0, subst F same first.1, (later.0, subst G same later.1, refl)),
      later.2 ∙ ap (λ xs. xs ++ later.0) then ∙ append_assoc before entry later.0 ∙ ap (λ xs. before ++ (xs ++ later.0)) first.2,
    )

pub listed_in : (q p : JoinQuery) (n : ℕ) → p ≡ q → AreListed q n → AreListed p n
listed_in q p n same has = subst (λ (x : JoinQuery). AreListed x n) (sym same) has
