pub mod BytesLaws
pub mod Hmac
pub mod Opening
pub mod Realm
pub mod RealmLaws
pub mod Tokens
