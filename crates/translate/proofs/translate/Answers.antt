-- `translate::translate` meets its contract: scratch memory by the text's length, the limit of texts. Assumes nothing.
use Rattle.translate.proofs.Service.{long_refused}
use Rattle.translate.proofs.translate.Goals as goal

pub returns : goal.returns
returns c =
    let both = long_refused _ _ c.if-text-le-TEXT_LIMIT.false in
    record { image_after = both.0; translated_within = both.1 }
