use Rattle.std.proofs.Common.{rules, sym, mod-eq_of_lt}
use Rattle.fields.specs.Residues.{residue_same}
use Rattle.fields.proofs.residue.arithmetic.ResidueField.ONE.Goals as goal

pub returns : goal.returns
returns g c = residue_same _ _ _ (sym (mod-eq_of_lt (search rules)))
