use Rattle.region_archive.proofs.numbers.put_element.Goals as goal

pub returns-in-4 : goal.returns-in-4
returns-in-4 c = rw c.in-4.is c.put_number.ensures

pub returns-in-6 : goal.returns-in-6
returns-in-6 c = rw c.in-6.is c.put_number-in-6.ensures

pub returns-in-8 : goal.returns-in-8
returns-in-8 c = rw c.in-8.is c.put_number-in-8.ensures
