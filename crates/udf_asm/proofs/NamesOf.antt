-- An operation has one name, and a name at most one operation.
use Rattle.std.proofs.Common.{◌≡◌, ℕ, Bool, true, false, cond, List, ◌++◌, refl, ap, ◌∙◌}
use Rattle.std.specs.Prelude.{Option, Some, None, nat_lt}
use Rattle.std.specs.List.{list_all, slice_split}
use Rattle.std.specs.Str.{bytes_eq}
use Rattle.std.proofs.lemmas.Slice.Eq.{bytes_eq-Decides}
use Rattle.udf_code.specs.declared.op.Op.{Op}
use Rattle.udf_code.specs.declared.op.Op.TheVariants.{Set, Mov, Add, Sub, Mul, Div, Rem, And, Shr, Load1, Load2, Load4, Emit, IfLess, IfEqual, Else, End, For, Keep}
use Rattle.udf_asm.specs.Names.{name_of, op_named}
use Rattle.udf_asm.specs.Assembly.{is_space, parts_read, line_read}

pub op_named-name_of : (o : Op) → op_named (name_of o) ≡ Some o
op_named-name_of Set = refl
op_named-name_of o = refl

-- the bytes of a name are above a space
pub name_high : (o : Op) → list_all (λ c. nat_lt 32 c) (name_of o) ≡ true
name_high Set = refl
name_high o = refl

-- a line that begins with a name isn't empty
pub line_read-name : (o : Op) (rest : List ℕ) → line_read (name_of o ++ rest) ≡ parts_read (slice_split is_space (name_of o ++ rest))
line_read-name Set rest = refl
line_read-name o rest = refl

else_if : (name : List ℕ) (o' : Op) (rest : Option Op) (o : Op) → (rest ≡ Some o → name ≡ name_of o) → cond (bytes_eq name (name_of o')) (Some o') rest ≡ Some o → name ≡ name_of o
else_if name o' rest o f h = by_test (bytes_eq name (name_of o')) refl h
  where
    by_test : (t : Bool) → bytes_eq name (name_of o') ≡ t → cond t (Some o') rest ≡ Some o → name ≡ name_of o
    by_test true s k = let same : o' ≡ o = cc in (bytes_eq-Decides name (name_of o')).0 s ∙ ap name_of same
    by_test false s k = f k

none_left : (name : List ℕ) (o : Op) → ◌≡◌ {A = Option Op} None (Some o) → name ≡ name_of o
none_left name o h = absurd (cc)

pub name_of-op_named : (name : List ℕ) (o : Op) → op_named name ≡ Some o → name ≡ name_of o
name_of-op_named name o =
    else_if name Set _ o (else_if name Mov _ o (else_if name Add _ o
    (else_if name Sub _ o (else_if name Mul _ o (else_if name Div _ o
    (else_if name Rem _ o (else_if name And _ o (else_if name Shr _ o
    (else_if name Load1 _ o (else_if name Load2 _ o (else_if name Load4 _ o
    (else_if name Emit _ o (else_if name IfLess _ o (else_if name IfEqual _ o
    (else_if name Else _ o (else_if name End _ o (else_if name For _ o
    (else_if name Keep _ o (none_left name o)))))))))))))))))))
