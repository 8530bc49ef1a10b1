-- A block of a built-in type that names nothing and may use all its bytes.
use Rattle.std.proofs.Common.{◌≡◌, ◌∙◌, ℕ, ◌≤◌, List, [], length, drop, Some, None, ap}
use Rattle.std.specs.Prelude.{cond}
use Rattle.std.proofs.lemmas.List.{drop_all}
use Rattle.xn_model.specs.Lists.{blank}
use Rattle.xn_model.specs.Types.{Types}
use Rattle.image_model.specs.Walk.{visit_sees}

pub leaf-sees : (T : Types) (t : ℕ) (m : List ℕ) → T.owned t m ≡ [] → T.size t m ≡ 512 → length m ≤ 512 → visit_sees T t m ≡ Some []
leaf-sees T t m none whole short =
    (λ i. cond (blank (drop (whole i) m)) (Some (none i)) None) ∙ ap (λ l. cond (blank l) (Some []) None) (drop_all 512 m short)
