use mathlib.Core.Path.{◌≡◌, refl, sym, subst}
use mathlib.Core.Bool.{true}
use Prim.Native.Nat.{ℕ, ◌-◌}
use native.Mathlib.Omega.{arith}
use borrow.Author.Rules.{rules}
use Rattle.std.specs.Prelude.{Result, Err}
use Rattle.region_graph.specs.declared.refusals.Refusal.{Refusal}
use Rattle.region_archive.specs.Image.{latest, image}
use Rattle.region_archive.specs.File.{oldest, opens}
use Rattle.region_archive.specs.Promise.{written_answer, write_questions}
use Rattle.region_archive.proofs.FileReads.{refusal_positive}
use Rattle.region_convert.specs.Conversion.{Forwards}
use Rattle.region_convert.proofs.Conversions.{opened_over, not_asked, not_read, then_written}
use Rattle.region_convert.proofs.forward.Goals as goal

pub returns-in_err-ask_version : goal.returns-in_err-ask_version
returns-in_err-ask_version c =
    let out = c.args.out.now in
    let k = c.in_err-ask_version.field-0.0 in
    let e : c.from_residual.result ≡ Err k = search rules in
    subst (λ (r : Result ℕ Refusal). Forwards c.args.bytes.now out (written_answer r) out) (sym e)
    (not_asked oldest (latest - 1) (λ m. write_questions m out) image out k (search rules))

pub returns-in_err-read_over : goal.returns-in_err-read_over
returns-in_err-read_over c =
    let s = c.args.bytes.now in
    let out = c.args.out.now in
    let k = c.in_err-read_over.field-0.0 in
    let e : c.from_residual-in_err-read_over.result ≡ Err k = search rules in
    let opened : opens oldest (latest - 1) s ≡ true = search rules in
    subst (λ (r : Result ℕ Refusal). Forwards s out (written_answer r) out) (sym e)
    (not_read oldest (latest - 1) (λ m. write_questions m out) image out
    (opened_over oldest (latest - 1) s opened (omega arith) (omega arith) c.in_err-read_over.ensures) (refusal_positive k))

pub returns : goal.returns
returns c =
    let s = c.args.bytes.now in
    let out = c.args.out.now in
    let opened : opens oldest (latest - 1) s ≡ true = search rules in
    then_written oldest (latest - 1) (λ m. write_questions m out) image out
    (opened_over oldest (latest - 1) s opened (omega arith) (omega arith) c.in_ok-read_over.ensures) refl (search rules)
