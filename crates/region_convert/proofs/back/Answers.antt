use mathlib.Core.Path.{◌≡◌, refl, sym, subst}
use mathlib.Core.Bool.{true}
use Prim.Native.Nat.{ℕ}
use native.Mathlib.Omega.{arith}
use borrow.Author.Rules.{rules}
use Rattle.std.specs.Prelude.{Result, Err}
use Rattle.region_graph.specs.declared.refusals.Refusal.{Refusal}
use Rattle.region_archive.specs.Image.{latest, older_image}
use Rattle.region_archive.specs.File.{opens}
use Rattle.region_archive.specs.Promise.{written_answer, older_questions}
use Rattle.region_archive.proofs.FileReads.{refusal_positive}
use Rattle.region_convert.specs.Conversion.{Backs}
use Rattle.region_convert.proofs.Conversions.{opened_over, not_asked, not_read, then_written}
use Rattle.region_convert.proofs.back.Goals as goal

pub returns-in_err-ask_version : goal.returns-in_err-ask_version
returns-in_err-ask_version c =
    let out = c.args.out.now in
    let k = c.in_err-ask_version.field-0.0 in
    let e : c.from_residual.result ≡ Err k = search rules in
    subst (λ (r : Result ℕ Refusal). Backs c.args.bytes.now out (written_answer r) out) (sym e)
    (not_asked latest latest (λ m. older_questions m out) older_image out k (search rules))

pub returns-in_err-read_over : goal.returns-in_err-read_over
returns-in_err-read_over c =
    let s = c.args.bytes.now in
    let out = c.args.out.now in
    let k = c.in_err-read_over.field-0.0 in
    let e : c.from_residual-in_err-read_over.result ≡ Err k = search rules in
    let opened : opens latest latest s ≡ true = search rules in
    subst (λ (r : Result ℕ Refusal). Backs s out (written_answer r) out) (sym e)
    (not_read latest latest (λ m. older_questions m out) older_image out
    (opened_over latest latest s opened (omega arith) (omega arith) c.in_err-read_over.ensures) (refusal_positive k))

pub returns : goal.returns
returns c =
    let s = c.args.bytes.now in
    let out = c.args.out.now in
    let opened : opens latest latest s ≡ true = search rules in
    then_written latest latest (λ m. older_questions m out) older_image out
    (opened_over latest latest s opened (omega arith) (omega arith) c.in_ok-read_over.ensures) refl (search rules)
