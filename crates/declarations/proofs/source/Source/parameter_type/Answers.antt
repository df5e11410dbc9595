use Rattle.std.proofs.Common.{rules}
use Rattle.outline.specs.Contents.{contents}
use Rattle.declarations.proofs.Searches.{found_type}
use Rattle.declarations.proofs.source.Source.parameter_type.Goals as goal

pub returns : goal.returns
returns c =
    found_type c.args.self.now.text.now (contents c.args.self.now.outline.now) c.args.i _ _ _ (λ v h. search rules) c.parameter.ensures c.boolean.ensures c.map_or.ensures
