use mathlib.Core.Path.{◌≡◌, sym, subst}
use borrow.Author.Rules.{rules}
use Rattle.std.specs.Prelude.{Err}
use Rattle.region_archive.specs.Promise.{Given}
use Rattle.region_archive.proofs.FileReads.{read_refused, read_anew}
use Rattle.region_archive.proofs.reading.read.Goals as goal

pub returns-in_err-read_over : goal.returns-in_err-read_over
returns-in_err-read_over c =
    let s = c.args.bytes.now in
    let k = c.in_err-read_over.field-0.0 in
    let e : c.from_residual.result ≡ Err k = search rules in
    subst (Given s) (sym e) (read_refused k (λ f. (c.in_err-read_over.ensures.says f).number))

pub returns : goal.returns
returns c = read_anew c.in_ok-read_over.ensures
