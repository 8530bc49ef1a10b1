use Rattle.std.proofs.Common.{rules, inr, map}
use Rattle.tree_changes.specs.declared.setting.Setting.TheVariants as setting
use Rattle.xnfs_line.proofs.WordCases.{sets_paths}
use Rattle.xnfs_line.proofs.changing.change_mode.Goals as goal

-- the text is a mode
pub returns-in-Some-clause-does : goal.returns-in-Some-clause-does
returns-in-Some-clause-does g c =
    let before = c.args.opened.now in
    let after = c.set_attributes.new.opened in
    inr (
      c.in-Some.modes,
      search rules,
      sets_paths (g.S.Store.types_of before.session.store) before.folder (setting.Modes c.in-Some.modes) (map (λ path. path.now) c.args.told.1.now)
          c.args.is_recursive before.told after.told (g.S.Store.state_of before.session.store) (g.S.Store.state_of after.session.store)
          before.session.volume after.session.volume c.set_attributes.result c.set_attributes.ensures.does c.set_attributes.ensures.below,
    )
