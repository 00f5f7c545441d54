use Rattle.std.proofs.Common.{subst, sym, ap, length, arith, ◌^◌, ◌∙◌, get_or, List}
use Rattle.std.proofs.lemmas.List.{length-map}
use Rattle.card_scaled.specs.declared.factors.Link.{Link}
use Rattle.card_scaled.specs.Scaled.{IsNear, ScaledNumber}
use Rattle.card_scaled.proofs.SparseSteps.{base_is_near, base_times, links_known, links_at, links_between_near, link_is_near, link_taken, all_links_in}
use Rattle.card_scaled.proofs.factors.Factors.with_relation.Goals as goal

pub mul-product-requires-clause-other_near : goal.mul-product-requires-clause-other_near
mul-product-requires-clause-other_near c =
    base_is_near c.args.query.now c.args.self.now.bases.items c.args.r _ c.requires.factors.bases c.requires.known c.index-base.ensures

pub index-requires : goal.index-requires
index-requires c =
    omega (arith, c.requires.known, c.args.self.now.links.ok.0, links_known c.args.query.now _ c.requires.factors.links, length-map c.args.self.now.links.items (λ v. v.items))

pub links-init : goal.links-init
links-init c =
    base_times c.args.query.now c.args.self.now.bases.items c.args.r _ c.args.c _ c.requires.factors.bases c.requires.known c.index-base.ensures c.mul-product.ensures

pub times_link-product-requires-clause-near : goal.times_link-product-requires-clause-near
times_link-product-requires-clause-near c =
    subst (λ (x : ScaledNumber). IsNear (2 ^ 24) x.scale) (sym c.links.invariant) (links_between_near c.args.query.now c.args.s c.args.r c.links.i c.args.c c.recall.ensures.few_preds c.requires.near)

pub times_link-product-requires-clause-fraction : goal.times_link-product-requires-clause-fraction
times_link-product-requires-clause-fraction c =
    let here = links_at c.args.query.now (λ v. v.items) c.args.self.now.links.items c.args.r c.index.result.now c.as_slice-links.result.now c.requires.factors.links c.requires.known c.index.ensures c.as_slice-links.ensures.value in
    link_is_near c.args.query.now c.args.r c.links.i c.index-links-i.result (omega (arith, c.links-test.true, ap (λ (ls : List Link). length ls) here)) (c.index-links-i.is ∙ ap (λ ls. get_or ls c.links.i c.index-links-i.result) here)

pub links-preserved : goal.links-preserved
links-preserved c =
    let here = links_at c.args.query.now (λ v. v.items) c.args.self.now.links.items c.args.r c.index.result.now c.as_slice-links.result.now c.requires.factors.links c.requires.known c.index.ensures c.as_slice-links.ensures.value in
    link_taken c.as_slice-links.result.now _ c.args.s c.links.i _ c.links.product _ c.index-links-i.result here c.links-test.true c.index-links-i.is c.links.invariant c.times_link-product.ensures

pub returns : goal.returns
returns c =
    let here = links_at c.args.query.now (λ v. v.items) c.args.self.now.links.items c.args.r c.index.result.now c.as_slice-links.result.now c.requires.factors.links c.requires.known c.index.ensures c.as_slice-links.ensures.value in
    all_links_in c.args.query.now c.args.s c.args.r c.links.i c.args.c _ (omega (arith, c.links-test.false, ap (λ (ls : List Link). length ls) here)) c.links.invariant
