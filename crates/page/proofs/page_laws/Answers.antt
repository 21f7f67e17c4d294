-- Each law stands in `Laws`.
use Rattle.page.proofs.Laws.{length-put, read-written, read-other, outside, page-put, writes-commute, page-in, page-length, page-bytes, rewritten-same, page-local, page-past, cluster-pages}
use Rattle.page.proofs.Mending.{mended-most}
use Rattle.page.proofs.page_laws.Goals as goal

pub returns : goal.returns
returns c format =
    record {
      of-put = λ always p bytes image h. record {
        length-put = length-put format always p bytes image h;
        read-written = read-written format always p bytes image h;
        read-other = read-other format always p bytes image h;
        outside = outside format always p bytes image h;
        page-put = page-put format always p bytes image h;
        commute = λ also q more k n. writes-commute format always p bytes also q more image h k n;
      };
      of-read = λ image p bytes e. record {
        page-in = page-in format image p bytes e;
        page-length = page-length format image p bytes e;
        page-bytes = λ h. page-bytes format image p bytes h e;
        rewritten-same = rewritten-same format image p bytes e;
      };
      page-past = page-past format;
      mended-most = mended-most format;
      cluster-pages = cluster-pages format;
      page-local = page-local format;
    }
