use mathlib.Core.Path.{refl}
use Rattle.region_archive.proofs.FormLaws.{numbers_form_fits, packages_form_fits, bare_packages_form_fits}
use Rattle.region_archive.proofs.FormLaws.{entries_form_fits, bare_entries_form_fits}
use Rattle.region_archive.proofs.forms.list_form.Goals as goal

pub returns-in-Numbers : goal.returns-in-Numbers
returns-in-Numbers c = rw c.in-Numbers.is (refl, numbers_form_fits)

pub returns-in-Packages : goal.returns-in-Packages
returns-in-Packages c = rw c.in-Packages.is (refl, packages_form_fits)

pub returns-in-BarePackages : goal.returns-in-BarePackages
returns-in-BarePackages c = rw c.in-BarePackages.is (refl, bare_packages_form_fits)

pub returns-in-Entries : goal.returns-in-Entries
returns-in-Entries c = rw c.in-Entries.is (refl, entries_form_fits)

pub returns-in-BareEntries : goal.returns-in-BareEntries
returns-in-BareEntries c = rw c.in-BareEntries.is (refl, bare_entries_form_fits)
