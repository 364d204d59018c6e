use Rattle.std.proofs.Common.{◌≡◌, map, sym, ap, ◌∙◌, add-one, arith}
use Rattle.rounds.specs.Accumulators.{coefficients, kept}
use Rattle.stages.specs.Terms.{line_of, chunk_at_point, chunk_factor, times_chunks}
use Rattle.stages.proofs.Fits.{fits_count, fits_variables, entries_at}
use Rattle.stages.proofs.Kept.{times_is}
use Rattle.stages.proofs.prover.ChunkTables.times.Goals as goal

pub line-requires : goal.line-requires
line-requires g c =
    let e = g.A.Committed.table in
    let xs = c.args.self.now.tables.now in
    let s = c.args.self.now.sizes in
    record { within = omega (arith, fits_count e xs s c.args.self.now.fit); ends = c.requires }

pub invariant_of-chunk : goal.invariant_of-chunk
invariant_of-chunk g c =
    record { variables = fits_variables g.A.Committed.table c.args.self.now.tables.now c.args.self.now.sizes c.args.self.now.fit c.loop-i.i c.index-tables-i.result c.loop-i-test.true c.index-tables-i.is }

pub loop-i-preserved : goal.loop-i-preserved
loop-i-preserved g c =
    let f = g.F.Field.field in
    let e = g.A.Committed.table in
    let xs = c.args.self.now.tables.now in
    let s = c.args.self.now.sizes in
    let i = c.loop-i.i in
    let low = c.args.ends.now.low.now in
    let high = c.args.ends.now.high.now in
    let tables = map (λ m. (e m).entries) xs in
    let entries = sym (entries_at e xs i c.index-tables-i.result c.loop-i-test.true c.index-tables-i.is) in
    times_is f _ _ (times_chunks f s low high tables i (coefficients c.args.first)) _ (line_of f low high (chunk_factor f s tables i)) c.loop-i.invariant
    (c.line.ensures ∙ ap (λ table. line_of f low high (chunk_at_point f s table i)) entries)
    c.times-product.ensures
    ∙ sym (ap (λ n. kept f (times_chunks f s low high tables n (coefficients c.args.first))) (add-one i))

pub returns : goal.returns
returns g c =
    let f = g.F.Field.field in
    let e = g.A.Committed.table in
    let xs = c.args.self.now.tables.now in
    let s = c.args.self.now.sizes in
    let all : c.loop-i.i ≡ c.args.self.now.sizes.d = omega (arith, fits_count e xs s c.args.self.now.fit) in
    c.loop-i.invariant
    ∙ ap (λ n. kept f (times_chunks f s c.args.ends.now.low.now c.args.ends.now.high.now (map (λ m. (e m).entries) xs) n (coefficients c.args.first))) all
