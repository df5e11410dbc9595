-- The laws of the types that are found.
use Rattle.std.proofs.Common.{◌≡◌, ℕ, List, Some, Option}
use Rattle.values.specs.declared.types.Ty.{Ty}
use Rattle.values.specs.Fits.{AreLines}
use Rattle.outline.specs.Contents.{Contents}
use Rattle.declarations.specs.Resolved.{Declared}
use Rattle.typing.specs.Laws.{TypeLaws}
use Rattle.typing.proofs.Complete.{complete}
use Rattle.typing.proofs.Sound.{sound}
use Rattle.typing.proofs.Whole.{whole}

one_of : {o : Option Ty} {s t : Ty} → o ≡ Some s → o ≡ Some t → s ≡ t
one_of p q = cc

pub type_laws : (text : List ℕ) (k : Contents) (d : Declared) → AreLines d.ancestry → TypeLaws text k d
type_laws text k d lines =
    record {
      complete = λ i t h. complete text k d lines h;
      sound = λ i t h q. sound text k d lines i t h q;
      single = λ i s t p q. one_of (complete text k d lines p) (complete text k d lines q);
      whole = whole text k d lines;
    }
