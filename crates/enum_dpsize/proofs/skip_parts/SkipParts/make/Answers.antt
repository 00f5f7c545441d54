use Rattle.std.proofs.Common.{◌≡◌, ◌<◌, ◌+◌, ◌-◌, ◌++◌, ◌∷◌, [], ◌∙◌, ap, arith, length, get_or, ℕ, List}
use Rattle.std.proofs.lemmas.List.{take_all}
use Rattle.enum_dpsize.proofs.PartLists.{first_known, parts_few, count_is, parts_can_skip, part_added}
use Rattle.enum_dpsize.proofs.skip_parts.SkipParts.make.Goals as goal

pub part-n-requires : goal.part-n-requires
part-n-requires c = (omega arith, first_known c.args.parts.now c.requires)

pub overflow_cast-k : goal.overflow_cast-k
overflow_cast-k c =
    let n : length c.part-n.result.now ≡ length c.args.parts.now = count_is c.args.parts.now c.part-n.result.now c.requires c.part-n.ensures in
    omega (arith, n, parts_few c.args.parts.now c.requires)

pub overflow_add-k : goal.overflow_add-k
overflow_add-k c =
    let n : length c.part-n.result.now ≡ length c.args.parts.now = count_is c.args.parts.now c.part-n.result.now c.requires c.part-n.ensures in
    omega (arith, n, parts_few c.args.parts.now c.requires)

pub part-part-requires : goal.part-part-requires
part-part-requires c =
    let n : length c.part-n.result.now ≡ length c.args.parts.now = count_is c.args.parts.now c.part-n.result.now c.requires c.part-n.ensures in
    (omega arith, omega (arith, n))

pub make-requires : goal.make-requires
make-requires c =
    let n : length c.part-n.result.now ≡ length c.args.parts.now = count_is c.args.parts.now c.part-n.result.now c.requires c.part-n.ensures in
    parts_can_skip c.args.parts.now (c.loop-k.k + 1) c.part-part.result.now c.requires (omega arith) (omega (arith, n)) c.part-part.ensures

pub loop-k-preserved : goal.loop-k-preserved
loop-k-preserved c =
    let parts : List (List ℕ) = c.args.parts.now in
    let xs : List ℕ = c.part-part.result.now in
    let n : length c.part-n.result.now ≡ length parts = count_is parts c.part-n.result.now c.requires c.part-n.ensures in
    let l : c.loop-k.k < length parts = omega (arith, n) in
    let k : c.loop-k.k + 1 - 1 ≡ c.loop-k.k = omega arith in
    let read : xs ≡ get_or parts c.loop-k.k xs = c.part-part.ensures ∙ ap (λ i. get_or parts i xs) k in
    part_added parts c.loop-k.k c.loop-k.all.items c.push.new.self.items xs c.loop-k.invariant l read
    (c.in_ok-push.ensures.items ∙ ap (λ (ys : List ℕ). c.loop-k.all.items ++ ys ∷ []) c.in_ok-skip.ensures)

pub returns : goal.returns
returns c =
    let n : length c.part-n.result.now ≡ length c.args.parts.now = count_is c.args.parts.now c.part-n.result.now c.requires c.part-n.ensures in
    c.loop-k.invariant ∙ take_all c.loop-k.k c.args.parts.now (omega (arith, n))
