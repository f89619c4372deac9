-- What the live contexts carry: a test of it is a test of each.
use Rattle.std.proofs.Common.{◌≡◌, ℕ, Bool, true, false, List, [], ◌∷◌, ◌++◌, refl, ap, ◌∙◌}
use Rattle.std.specs.Prelude.{◌&&◌, ◌||◌, if◌then◌else◌}
use Rattle.std.specs.List.{list_any}
use Rattle.copy_privs.specs.declared.privilege.Privilege.{Privilege}
use Rattle.gss_ctx.specs.declared.context.Entry.{Entry}
use Rattle.gss_ctx.specs.Table.{is_live}
use Rattle.source_core.specs.Judging.{carried_by, privilege_of}
use Rattle.source_core.specs.declared.carried.Carried.{Carried}

either : (a b c d : Bool) → d ≡ (b || c) → (a || d) ≡ ((a || b) || c)
either true b c d same = refl
either false b c d same = same

any_of_either : (test : Privilege → Bool) (xs ys : List Privilege) → list_any test (xs ++ ys) ≡ (list_any test xs || list_any test ys)
any_of_either test [] ys = refl
any_of_either test (x ∷ xs) ys = either (test x) _ _ _ (any_of_either test xs ys)

-- one more context
one_more : (test : Privilege → Bool) (live : Bool) (carried rest : List Privilege) (others : Bool) → list_any test rest ≡ others
    → list_any test (if live then carried ++ rest else rest) ≡ ((live && list_any test carried) || others)
one_more test true carried rest others same = any_of_either test carried rest ∙ ap (λ (b : Bool). list_any test carried || b) same
one_more test false carried rest others same = same

pub any_carried : (test : Privilege → Bool) (second : ℕ) (entries : List (Entry Carried))
    → list_any test (carried_by second entries) ≡ list_any (λ e. is_live second e && list_any test (privilege_of e.context.carry)) entries
unfolding carried_by
any_carried test second [] = refl
any_carried test second (e ∷ entries) =
    one_more test (is_live second e) (privilege_of e.context.carry) (carried_by second entries) _ (any_carried test second entries)
