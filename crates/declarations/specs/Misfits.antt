-- Ends that do not fit those of the parent, and methods that do not fit those that they override.
use Rattle.std.specs.Prelude.{ℕ, ◌+◌, Bool, not, ◌&&◌, List, length, Some, None, Option}
use Rattle.std.specs.List.{slice_get}
use Rattle.words.specs.Names.{name_at}
use Rattle.descent.specs.Nearest.{nearest_up}
use Rattle.values.specs.declared.types.Lineage.{Lineage}
use Rattle.values.specs.declared.types.CellRow.{CellRow}
use Rattle.values.specs.Fits.{Ancestry, row_fits_to, fits_to}
use Rattle.outline.specs.declared.entry.Row.{Row}
use Rattle.outline.specs.Contents.{Contents}
use Rattle.tables.specs.Below.{first_below, lesser, least_below}
use Rattle.declarations.specs.declared.declarations.Ends.{Ends}
use Rattle.declarations.specs.declared.declarations.Signature.{Signature}
use Rattle.tables.specs.Items.{given}
use Rattle.declarations.specs.Rows.{row}
use Rattle.declarations.specs.Resolved.{Declared}
use Rattle.declarations.specs.Descending.{line_in, parent_row}
use Rattle.declarations.specs.Naming.{fault_if}
use Rattle.declarations.specs.Clashes.{method_alike}

abbrev pub end_fits : Ancestry → CellRow → CellRow → Bool
end_fits a r s = row_fits_to a r.lineage r.number s.lineage s.number

-- the first of a relationship's ends that does not fit the parent's
abbrev pub ends_misfit : Ancestry → Row → Ends → Ends → Option ℕ
ends_misfit a r own above =
    lesser (fault_if (not (end_fits a own.first above.first)) r.first) (fault_if (not (end_fits a own.second above.second)) r.second)

-- the ends of the parent of relationship row n
abbrev pub parent_ends : Declared → ℕ → Option Ends
parent_ends d n = given (parent_row d.ancestry.relationships n) None (slice_get d.ends)

-- an end of the declared relationship i does not fit that end of its parent
abbrev pub end_misfit_place : Contents → Declared → ℕ → Option ℕ
end_misfit_place k d i =
    given (slice_get k.relationships i) None
    (λ r. given (slice_get d.ends (i + 1)) None (λ own. given (parent_ends d (i + 1)) None (ends_misfit d.ancestry r own)))

abbrev pub first_end_misfit : Contents → Declared → Option ℕ
first_end_misfit k d = least_below (end_misfit_place k d) (length k.relationships)

-- the method of that name that row n of a line declares
abbrev pub method_in : List ℕ → Contents → Lineage → List ℕ → ℕ → Option ℕ
method_in text k l name n = first_below (method_alike text k (row l n) name) (length k.methods)

-- the method of that name nearest upward from row n
abbrev pub method_above : List ℕ → Contents → List ℕ → Lineage → List ℕ → ℕ → Option ℕ
method_above text k line l name n = given (nearest_up line (method_in text k l name) n) None (λ found. Some found.1)

-- the method that one of that name in the row overrides
abbrev pub overridden : List ℕ → Contents → Ancestry → CellRow → List ℕ → Option ℕ
overridden text k a owner name =
    given (parent_row (line_in a owner.lineage) owner.number) None (method_above text k (line_in a owner.lineage) owner.lineage name)

-- the old parameter fits the new one, and the new result the old one
abbrev pub overrides : Ancestry → Signature → Signature → Bool
overrides a new old = fits_to a old.parameter new.parameter && fits_to a new.result old.result

-- method i does not fit the one that it overrides
abbrev pub override_misfit_place : List ℕ → Contents → Declared → ℕ → Option ℕ
override_misfit_place text k d i =
    given (slice_get k.methods i) None
    (λ m. given (overridden text k d.ancestry m.owner (name_at text m.name)) None
    (λ j. given (slice_get d.methods i) None (λ new. given (slice_get d.methods j) None (λ old. fault_if (not (overrides d.ancestry new old)) m.name))))

abbrev pub first_override_misfit : List ℕ → Contents → Declared → Option ℕ
first_override_misfit text k d = least_below (override_misfit_place text k d) (length k.methods)
