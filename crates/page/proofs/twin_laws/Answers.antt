-- Each law stands in `Twins`.
use Rattle.page.proofs.Twins.{same_back, same-through, same-page, same_whole, same-clusters, put_both, put-codes, written-codes, other-codes, spare-put, spare-zero, codes-readable, plain-readable, plain-one, pages-start, clusters-start}
use Rattle.page.proofs.Mending.{codes-mended, plain-mended}
use Rattle.page.proofs.twin_laws.Goals as goal

pub returns : goal.returns
returns c =
    record {
      same_back = same_back;
      same-through = same-through;
      same-page = same-page;
      same_whole = same_whole;
      same-clusters = same-clusters;
      put_both = put_both;
      put-codes = put-codes;
      written-codes = written-codes;
      other-codes = other-codes;
      spare-put = spare-put;
      spare-zero = spare-zero;
      codes-readable = codes-readable;
      plain-readable = plain-readable;
      codes-mended = codes-mended;
      plain-mended = plain-mended;
      plain-one = plain-one;
      pages-start = pages-start;
      clusters-start = clusters-start;
    }
