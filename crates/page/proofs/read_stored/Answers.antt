-- A raw page is read as `read_raw` does.
use Rattle.page.proofs.read_stored.Goals as goal

pub returns-in_ok-as_array-in-Raw : goal.returns-in_ok-as_array-in-Raw
returns-in_ok-as_array-in-Raw c =
    let page = c.in_ok-as_array-in-Raw.ensures.cases.same in
    record {
      read = rw c.in-Raw.is (rw page at c.read_raw.ensures.read);
      mended = rw c.in-Raw.is (rw page at c.read_raw.ensures.mended);
    }
