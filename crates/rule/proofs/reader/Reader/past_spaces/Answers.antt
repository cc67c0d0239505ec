use Rattle.std.proofs.Common.{ap, ◌∙◌}
use Rattle.std.proofs.lemmas.List.{take_rest}
use Rattle.rule.specs.declared.tokens.Class.TheVariants.{Blank}
use Rattle.rule.specs.Classes.{run_of}
use Rattle.rule.proofs.Classing.{run_stops}
use Rattle.rule.proofs.reader.Reader.past_spaces.Goals as goal

pub returns-clause-stops : goal.returns-clause-stops
returns-clause-stops c =
    let r = c.args.self.now in
    run_stops Blank r.text.now r.at c.run_of.result (c.run_of.ensures.is ∙ ap (run_of Blank) (take_rest r.text.now r.at))
