use Rattle.std.proofs.Common.{◌≡◌, refl, ap, map, Ok, subst, sym, ◌∙◌}
use Rattle.xnfs_session.specs.Sessions.{owner_of}
use Rattle.xnfs_session.proofs.Looks.{kind_installed, owner_told}
use Rattle.xnfs_session.proofs.session.Session.owner.Goals as goal

pub pairs_of-pairs-requires : goal.pairs_of-pairs-requires
pairs_of-pairs-requires g c =
    kind_installed (g.S.Store.types_of c.self.inside.store) (g.S.Store.state_of c.self.inside.store) c.kind.ensures.rules c.self.inside.fs.number c.args.block c.in_ok-ty.ty
    c.in_ok-ty.ensures.kind

pub returns : goal.returns
returns g c =
    let told = owner_told (g.S.Store.types_of c.self.inside.store) (g.S.Store.state_of c.self.inside.store) c.self.inside.fs.number c.args.block c.in_ok-ty.ty c.in_ok-bytes.bytes
    c.pairs_of-pairs.result.items c.in_ok-owned.owned.items c.in_ok-ty.ensures.kind c.in_ok-bytes.ensures.bytes c.pairs_of-pairs.ensures
    (c.in_ok-owned.ensures ∙ ap (map (λ pair. pair.block)) c.as_slice.ensures.value) in (
      refl,
      sym (subst (λ v. owner_of (g.S.Store.types_of v.store) (g.S.Store.state_of v.store) v.fs c.args.block ≡ Ok (c.in_ok-ty.ty, c.in_ok-owned.owned.items)) c.self.view_is
          (ap (λ fs. owner_of (g.S.Store.types_of c.self.inside.store) (g.S.Store.state_of c.self.inside.store) fs.number c.args.block) c.self.invariant.1 ∙ told)),
    )
