use Rattle.std.proofs.Common.{◌≡◌, ◌-◌, ◌≤◌, [], ◌∷◌, ◌++◌, length, string_bytes, IfOk, sym, ◌∙◌, subst, rules}
use Rattle.system_files.specs.Naming.{ending}
use Rattle.system_files.proofs.Named.{if_ok, is_beside, parted_at, parted_nowhere}
use Rattle.system_files.proofs.naming.name_beside.Goals as goal

pub returns-in-Some : goal.returns-in-Some
returns-in-Some c =
    let at = c.in-Some.ensures.cases in
    let end = c.as_str-end.ensures.value in
    let most : c.saturating_sub-most.result ≡ 255 - length c.as_str-end.result.now = c.saturating_sub-most.ensures in
    let short : length c.as_str-end.result.now ≤ 24 = subst (λ xs. length xs ≤ 24) (sym end) c.in_ok-end.ensures.short in
    let is : c.as_str-end.result.now ≡ ending c.args.number = end ∙ c.in_ok-end.ensures.text in
    let parted = parted_at c.args.path.now c.in-Some.folder.now c.in-Some.own.now at.0 at.1 at.2.0 at.2.1 at.3 at.4 in
    if_ok _ _ c.path_in.result (λ name named. is_beside c.args.path.now (c.in-Some.folder.now ++ 47 ∷ []) c.in-Some.own.now c.cut.result.now c.as_str-end.result.now (string_bytes name) c.args.number
    c.saturating_sub-most.result parted c.cut.ensures.front c.cut.ensures.fits most short is named) c.path_in.ensures

pub returns : goal.returns
returns c =
    let end = c.as_str-end.ensures.value in
    let front = c.cut-front.result.now in
    let most : c.saturating_sub-most.result ≡ 255 - length c.as_str-end.result.now = c.saturating_sub-most.ensures in
    let short : length c.as_str-end.result.now ≤ 24 = subst (λ xs. length xs ≤ 24) (sym end) c.in_ok-end.ensures.short in
    let is : c.as_str-end.result.now ≡ ending c.args.number = end ∙ c.in_ok-end.ensures.text in
    let named : IfOk c.format.result (λ name. string_bytes name ≡ front ++ c.as_str-end.result.now) = search rules in
    if_ok _ _ c.format.result (λ name both. is_beside c.args.path.now [] c.args.path.now front c.as_str-end.result.now (string_bytes name) c.args.number
    c.saturating_sub-most.result (parted_nowhere c.args.path.now c.in-None.ensures.cases) c.cut-front.ensures.front c.cut-front.ensures.fits most short is both) named
