-- What a session's call does of a kind, as its volume's own call of that kind does it.
use Rattle.std.proofs.Common.{◌≡◌, subst, sym}
use Rattle.xnfs_session.specs.declared.session.Kind.{Kind}

pub at_kind : {A : Type 0} (P : A → Kind → Type 0) (inside now : A) (one kind : Kind) → inside ≡ now → kind ≡ one → P inside one → P now kind
at_kind P inside now one kind view is holds = subst (P now) (sym is) (subst (λ value. P value one) view holds)
