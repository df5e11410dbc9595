-- What methods of options answer, where their closures answer what a definition says.
use Rattle.std.proofs.Common.{◌≡◌, Some, None, Option, MatchOption, ap, ◌∙◌}
use Rattle.std.specs.Option.{IsSomeAnd}

-- `a.map(..)`
pub mapped : {X Y : Type 0} {P : X → Y → Type 0} (g : Option X → Option Y) (a o : Option X) (r : Option Y)
    → None ≡ g None → ((x : X) (y : Y) → P x y → Some y ≡ g (Some x)) → a ≡ o → MatchOption a (r ≡ None) (λ x. IsSomeAnd r (P x)) → r ≡ g o
mapped g None o r n k e m = m ∙ n ∙ ap g e
mapped g (Some x) o None n k e m = absurd m
mapped g (Some x) o (Some y) n k e m = k x y m ∙ ap g e
