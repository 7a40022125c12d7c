pub mod Whole
pub mod Asking
pub mod Conversing
pub mod WhatIsAsked
pub mod WhatIsWritten
