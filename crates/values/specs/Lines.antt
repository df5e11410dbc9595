-- What the pair of lines means.
use Rattle.descent.specs.Rows.{line_of}
use Rattle.values.specs.declared.lines.Lines.{Lines}
use Rattle.values.specs.Fits.{Ancestry}

unfoldable pub ancestry : Lines → Ancestry
ancestry l = record { classes = line_of l.classes; relationships = line_of l.relationships }
