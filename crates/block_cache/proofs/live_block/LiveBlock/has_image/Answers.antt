use Rattle.std.proofs.Common.{◌≡◌, ◌∙◌, ◌≤◌, ap, arith, drop, length, sym, subst}
use Rattle.std.specs.Prelude.{bytes_eq}
use Rattle.std.proofs.lemmas.List.{drop_all}
use Rattle.xn_model.specs.Lives.{Life}
use Rattle.block_cache.specs.Cached.{CachedLife}
use Rattle.block_cache.specs.Undone.{before, entries_under}
use Rattle.block_cache.specs.Views.{HasImage, image_at}
use Rattle.block_cache.proofs.Changes.{image_of_life, length-pending}
use Rattle.block_cache.proofs.live_block.LiveBlock.has_image.Goals as goal

pub returns-then-len-count : goal.returns-then-len-count
returns-then-len-count c =
    let slab = c.self.inside.entries.now in
    let life = c.self.inside.life.now in
    let has = subst (λ (l : Life). HasImage c.args.count l) (sym c.self.view_is) c.requires in
    let long = ap (λ (l : CachedLife). length l.keys) c.life.view_is in
    let few : length life.keys ≤ c.args.count = omega (arith, long, c.len.ensures, c.if-len-count.true) in
    c.eq.ensures
    ∙ (ap (λ (l : CachedLife). bytes_eq c.args.bytes.now l.current) c.life.view_is
    ∙ (ap (λ ks. bytes_eq c.args.bytes.now (before (entries_under slab ks) life.current)) (sym (drop_all c.args.count life.keys few))
    ∙ (ap (bytes_eq c.args.bytes.now) (image_of_life slab c.self.invariant.0 life c.args.count c.self.invariant.1 has)
    ∙ ap (λ (l : Life). bytes_eq c.args.bytes.now (image_at c.args.count l)) c.self.view_is)))

pub is_copied_image-requires : goal.is_copied_image-requires
is_copied_image-requires c =
    let has = subst (λ (l : Life). HasImage c.args.count l) (sym c.self.view_is) c.requires in
    omega (arith, has.within, length-pending c.self.inside.entries.now c.self.invariant.0 c.self.inside.life.now c.self.invariant.1)

pub returns : goal.returns
returns c =
    let has = subst (λ (l : Life). HasImage c.args.count l) (sym c.self.view_is) c.requires in
    c.is_copied_image.ensures
    ∙ (ap (bytes_eq c.args.bytes.now) (image_of_life c.self.inside.entries.now c.self.invariant.0 c.self.inside.life.now c.args.count c.self.invariant.1 has)
    ∙ ap (λ (l : Life). bytes_eq c.args.bytes.now (image_at c.args.count l)) c.self.view_is)
